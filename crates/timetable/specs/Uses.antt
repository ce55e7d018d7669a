-- How often each resource is used at each time.
pub use Rattle.resource_uses.specs.Uses.{UsesOf, Countable, Marked}
