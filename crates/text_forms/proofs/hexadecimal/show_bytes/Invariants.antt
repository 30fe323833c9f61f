use Rattle.std.proofs.Common.{◌≡◌, ◌++◌, drop, string_bytes}
use Rattle.text_forms.specs.Hexadecimal.{text_from}
use Rattle.text_forms.proofs.hexadecimal.show_bytes.Given as goal

abbrev pub invariant-loop-i : goal.invariant-loop-i
invariant-loop-i l = string_bytes l.out ++ text_from l.i (drop l.i l.bytes) ≡ string_bytes l.initial.out ++ text_from 0 l.bytes
