-- What a table with scopes is, each file behind those that it cites: hashes of keys, the places that pairs hide, and the
-- scopes themselves.
pub mod Hashes
pub mod Places
pub mod Scopes
