pub mod laws
-- What the proofs of functions share: a result put together from the results of calls.
pub mod Results
