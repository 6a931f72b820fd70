-- The lemmas of c_types, by subject: a line for each file of this folder.
-- The folders have the proofs of functions, each beside the path of its function in src.
mod Bodies
mod InOrder
mod FileObjects
mod Settled
