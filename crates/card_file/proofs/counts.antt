-- What the proofs of several functions use.
mod Counting
mod Counted
