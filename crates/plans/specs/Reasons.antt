-- The reason that a line was not understood, in words.
use Rattle.std.specs.Prelude.{ℕ, List, codes}
use Rattle.plans.specs.declared.request.Misread.{Misread}
use Rattle.plans.specs.declared.request.Misread.TheVariants.{NoService, OtherWords, NoDepartment, NoKind, NoHour, NoSlot, NoValue, NoText}

abbrev pub misread_text : Misread → List ℕ
misread_text NoService = codes "no service is named yet: running-order, break-ledger, final-say running-order, final-say break-ledger or final-say final-say running-order"
misread_text OtherWords = codes "a line is DEPARTMENT KIND HOUR SLOT VALUE, or read HOUR SLOT"
misread_text NoDepartment = codes "the department is sales, programming or a number"
misread_text NoKind = codes "the kind is put, clear, replace, claim, yield or a number"
misread_text NoHour = codes "the hour is not a number up to 4294967295"
misread_text NoSlot = codes "the slot is not a number up to 4294967295"
misread_text NoValue = codes "the value is not a number up to 4294967295"
misread_text NoText = codes "the line is not text in UTF-8"
