-- Bytes as truth values.
pub use Rattle.resource_uses.proofs.laws.Bits.{bit-next, from_more, from-done}
