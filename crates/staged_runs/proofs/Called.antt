-- The staged calls compute.
use Rattle.std.proofs.Common.{rules, ◌≡◌, ℕ, ◌+◌, ◌*◌, ◌≤◌}
use lib.Count.{ones, ones_in}
use Rattle.promise_words.specs.Runs.{run_past, unbroken}
use Rattle.promise_words.specs.Timestamps.{no_words}
use Rattle.sites.specs.declared.site.Site.{Site}
use Rattle.tables.specs.Tables.{blank_rows}
use Rattle.rules.specs.States.{first_core}
use Rattle.staged_runs.specs.Calls.{CallsOf, StagedCalls}

abbrev site_of : (r f own : ℕ) → 3 ≤ r → r ≤ 7 → 1 ≤ f → 2 * f + 1 ≤ r → 1 ≤ own → own ≤ r → Site
site_of r f own least most some spare first last =
    record {
      figures = record { r = r; f = f; least = least; most = most; some = some; spare = spare };
      own = own;
      first = first;
      last = last;
    }

abbrev Begun : ℕ → ℕ → ℕ → Type 0
Begun r f own =
    (least : 3 ≤ r) (most : r ≤ 7) (some : 1 ≤ f) (spare : 2 * f + 1 ≤ r) (first : 1 ≤ own) (last : own ≤ r) →
    CallsOf (first_core (site_of r f own least most some spare first last))

begun : Begun 3 1 1
unfolding ones ones_in no_words unbroken run_past blank_rows
begun least most some spare first last = search rules

at_site : (r f own : ℕ) → r ≡ 3 → f ≡ 1 → own ≡ 1 → Begun r f own
at_site r f own e g h = rw (e, g, h) begun

pub called : StagedCalls
called site e g h =
    at_site site.figures.r site.figures.f site.own e g h
    site.figures.least site.figures.most site.figures.some site.figures.spare site.first site.last
