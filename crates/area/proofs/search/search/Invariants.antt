use Rattle.std.proofs.Common.{ℕ, ◌+◌, ◌-◌, ◌<◌, ◌≤◌, length, get_or}
use Rattle.area.specs.Spans.{Rising}
use Rattle.area.proofs.search.search.Given as goal

abbrev pub invariant-loop-lo : goal.invariant-loop-lo
invariant-loop-lo g l =
    (l.hi ≤ length l.parts)
    × (Rising g.S.Spanned.from g.S.Spanned.wide l.parts → (k : ℕ) (d : g.row.S.Denot) → k < l.lo → g.S.Spanned.from (get_or l.parts k d) + g.S.Spanned.wide (get_or l.parts k d) ≤ l.n)
    × (Rising g.S.Spanned.from g.S.Spanned.wide l.parts → (k : ℕ) (d : g.row.S.Denot) → l.hi ≤ k → k < length l.parts → l.n < g.S.Spanned.from (get_or l.parts k d))

abbrev pub decreases-loop-lo : goal.decreases-loop-lo
decreases-loop-lo g l = l.hi - l.lo
