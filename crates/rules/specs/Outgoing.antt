-- The messages that a call hands out, as bytes of the outgoing buffer: end to end from its first byte.
use Rattle.std.specs.Prelude.{ℕ, ◌+◌, List, [], ◌∷◌, ◌++◌, length}
use Rattle.line_format.specs.Encoding.{encode}
use Rattle.line_format.specs.Writing.{laid_over}
use Rattle.sites.specs.declared.sent.Sent.{Sent}

abbrev pub outgoing : List Sent → List ℕ
outgoing [] = []
outgoing (x ∷ xs) = encode x.message ++ outgoing xs

-- the buffer after a call; bytes past the messages stay
abbrev pub buffer_after : List Sent → List ℕ → List ℕ
buffer_after sent buffer = laid_over (outgoing sent) buffer

-- beside the answer stand, for each message, the set addressed, its place and its length
pub record Handed : Type 0 where
  pub to : ℕ
  pub place : ℕ
  pub bytes : ℕ

abbrev pub handed_from : ℕ → List Sent → List Handed
handed_from at [] = []
handed_from at (x ∷ xs) =
    record { to = x.to.bits; place = at; bytes = length (encode x.message) } ∷ handed_from (at + length (encode x.message)) xs

abbrev pub handed_out : List Sent → List Handed
handed_out sent = handed_from 0 sent
