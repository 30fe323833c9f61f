use Rattle.std.proofs.Common.{◌≡◌, true, sym, subst}
use Rattle.services.specs.Places.{hours_within}
use Rattle.services.proofs.Bookings.{next_within}
use Rattle.services.proofs.booking.BreakLedgerService.carry_out.Goals as goal

pub invariant_of-self : goal.invariant_of-self
invariant_of-self c =
    let ruled = next_within c.args.self.now.places.rows c.args.change.now c.args.self.now.within in
    record { within = subst (λ t. hours_within t ≡ true) (sym c.carry_out.ensures.moves) (rw c.booked-total.ensures ruled) }
