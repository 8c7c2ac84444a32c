-- The digest of bytes: second/PROTOCOL.md, "What is printed".
use Rattle.std.specs.Prelude.{ℕ, ◌+◌, ◌*◌, ◌%◌, List}
use Rattle.std.specs.List.{fold}

-- "for each byte b the digest becomes (digest * 31 + b + 1) % 4294967291"
unfoldable pub one_more : ℕ → ℕ → ℕ
one_more digest b = (digest * 31 + b + 1) % 4294967291

-- the digest after these bytes, one after the other
abbrev pub digest_of : ℕ → List ℕ → ℕ
digest_of digest bytes = fold one_more digest bytes
