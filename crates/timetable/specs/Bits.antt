-- Bytes as truth values.
pub use Rattle.resource_uses.specs.Bits.{marks}
