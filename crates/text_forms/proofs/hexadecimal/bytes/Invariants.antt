use Rattle.std.proofs.Common.{◌≡◌, ◌<◌, drop, None, vec_items, unwrap_or}
use Rattle.text_forms.specs.Hexadecimal.{bytes_after}
use Rattle.text_forms.proofs.Nibbles.{onto}
use Rattle.text_forms.proofs.hexadecimal.bytes.Given as goal

abbrev pub invariant-loop-c : goal.invariant-loop-c
invariant-loop-c l = (bytes_after None l.text ≡ onto (vec_items l.bytes) (bytes_after l.high (drop l.c-index l.text))) × (unwrap_or l.high 0 < 16)
