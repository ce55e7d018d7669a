-- Events that use a resource and take a time.
pub use Rattle.resource_uses.proofs.laws.Takers.{takers-users, any-trues}
