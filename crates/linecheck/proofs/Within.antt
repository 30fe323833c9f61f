-- What was written lies within the buffer.
use Rattle.std.proofs.Common.{◌≡◌, ℕ, ◌≤◌, Bool, true, false, cond, ltb, List, length, drop, Ok, Err, ap, arith, length-append, length-drop}
use Rattle.line_format.specs.Encoding.{encode}
use Rattle.line_format.specs.Limits.{within}
use Rattle.line_format.specs.Writing.{Written, writing, laid_over, count_fits, least_buffer}
use Rattle.line_format.specs.declared.fault.LineFault.TheVariants.{ShortBuffer, Malformed, OutsideLimits}
use Rattle.line_format.specs.declared.message.Message.{Message}

module _ (m : Message) (before after : List ℕ) (n : ℕ) where
  by_tests : (short fits limits : Bool) → Written m before after (cond short (Err ShortBuffer) (cond fits (cond limits (Ok (laid_over (encode m) before)) (Err OutsideLimits)) (Err Malformed))) (Ok n) → length after ≡ length before → n ≤ length before
  by_tests true fits limits h e = absurd (let z : ◌≡◌ {A = ℕ} 0 1 = cc h.0 in omega arith)
  by_tests false false limits h e = absurd (let z : ◌≡◌ {A = ℕ} 0 1 = cc h.0 in omega arith)
  by_tests false true false h e = absurd (let z : ◌≡◌ {A = ℕ} 0 1 = cc h.0 in omega arith)
  by_tests false true true h e =
      let same : n ≡ length (encode m) = cc h.0 in
      omega (arith, ap length h.1, length-append (encode m) (drop (length (encode m)) before), length-drop (length (encode m)) before)

  pub wrote_within : (r f : ℕ) → Written m before after (writing r f m before) (Ok n) → length after ≡ length before → n ≤ length before
  wrote_within r f = by_tests (ltb (length before) least_buffer) (count_fits m) (within r f m)
