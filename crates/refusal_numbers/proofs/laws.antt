-- Laws, for other crates to use.
pub mod Within
pub mod RunWithin
pub mod TextWithin
pub mod Numbers
