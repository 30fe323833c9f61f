use Rattle.std.proofs.Common.{◌≡◌, ◌+◌, ◌^◌, ◌<◌, fold, arith, rules}
use Rattle.services.specs.Places.{row}
use Rattle.services.proofs.Sums.{row_within}
use Rattle.services.proofs.ledger.BreakLedger.booked.Goals as goal

pub sum-requires : goal.sum-requires
sum-requires c =
    let rows = c.args.self.now.places.rows in
    let is : c.in-Some.row.now ≡ row rows c.args.hour = search rules in
    let fits : fold (λ a x. a + x) 0 c.in-Some.row.now < 2 ^ 32
    = rw is (omega (arith, row_within rows c.args.hour c.args.self.now.within)) in
    search rules
