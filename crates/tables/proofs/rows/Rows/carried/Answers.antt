use Rattle.std.proofs.Common.{ℕ, ◌^◌, cond, arith, rules}
use Rattle.std.proofs.lemmas.Iterator.{YieldsList-from_slice, YieldsList-from_map}
use Rattle.std.proofs.lemmas.Iterator.Consumers.{sum_by_from_yields_List, fits_by_from_yields_list}
use Rattle.std.proofs.lemmas.List.Sums.{count_by-le-length}
use Rattle.record.specs.declared.row.Row.{Row}
use Rattle.tables.specs.Tables.{is_carried}
use Rattle.tables.proofs.rows.Rows.carried.Goals as goal

abbrev one : Row → ℕ
one row = cond (is_carried row) 1 0

pub sum-requires-clause-fits : goal.sum-requires-clause-fits
sum-requires-clause-fits c =
    let rows = c.args.self.now.rows in
    let few = count_by-le-length is_carried rows in
    fits_by_from_yields_list one rows _ (2 ^ 32) (YieldsList-from_map _ one (YieldsList-from_slice rows cc) c.map.ensures.closure (λ x r q k. search rules)) (omega arith)

pub returns : goal.returns
returns c =
    let rows = c.args.self.now.rows in
    sum_by_from_yields_List one rows _ _ c.sum.ensures.ran (YieldsList-from_map _ one (YieldsList-from_slice rows cc) c.map.ensures.closure (λ x r q k. search rules))
