-- How a reader moves over its input.
use Rattle.std.specs.Prelude.{◌≡◌, ℕ, ◌+◌, List, ◌++◌, length, drop}
use Rattle.description.specs.declared.reader.Reader.{Reader}

-- the bytes that are left to read
abbrev pub left : Reader → List ℕ
left r = drop r.at r.bytes.now

-- the reader r went on over these bytes, and is r'
pub record Passed (r r' : Reader) (part : List ℕ) : Type 0 where
  pub same : r'.bytes.now ≡ r.bytes.now
  pub next : r'.at ≡ r.at + length part
  pub split : left r ≡ part ++ left r'
