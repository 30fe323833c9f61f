-- What a call on a turn leaves behind its references, before and after it.
use Rattle.std.specs.Prelude.{◌≡◌, Ok, Err, Result}
use Rattle.promise_words.specs.declared.clock.Clock.{Clock}
use Rattle.record.specs.declared.row.Row.{Row}
use Rattle.steps.specs.Steps.{Left}
use Rattle.steps.specs.declared.turn.Turn.{Turn}

-- just this record and this clock, behind the same references, at the same site
abbrev pub Holds : Row → Clock → Turn → Turn → Type 0
Holds row clock before after =
    (after.row.now ≡ row)
    × (after.clock.now ≡ clock)
    × (after.row.ghost_name ≡ before.row.ghost_name)
    × (after.clock.ghost_name ≡ before.clock.ghost_name)
    × (after.site.now ≡ before.site.now)

-- just what a step leaves
abbrev pub Gives : {A : Type 0} → Left A → Turn → A → Turn → Type 0
Gives done before answer after = (answer ≡ done.answer) × Holds done.row done.clock before after

-- the same; where it is refused, record and clock stay as they were
abbrev pub Tries : {A E : Type 0} → Result (Left A) E → Turn → Result A E → Turn → Type 0
Tries (Ok done) before answer after = (answer ≡ Ok done.answer) × Holds done.row done.clock before after
Tries (Err why) before answer after = (answer ≡ Err why) × Holds before.row.now before.clock.now before after
