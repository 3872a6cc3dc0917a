use Rattle.std.proofs.Common.{◌≡◌, ℕ, ◌+◌, ◌-◌, ◌*◌, ◌^◌, List, length, take, drop, sym, ◌∙◌, arith, length-drop}
use borrow.Author.Tests.{both_ways}
use Rattle.std.proofs.lemmas.List.{take_rest}
use Rattle.kinds.specs.Digits.{value}
use Rattle.kinds.specs.Points.{point_is, point_from}
use Rattle.kinds.proofs.Fits.{none_from}
use Rattle.kinds.proofs.points.point_in.Goals as goal
use Rattle.kinds.proofs.points.point_in.Goals.{then-s-at-via-then-s-at, then-s-at-via-else-s-at+then-s-at-ne46, then-not-each_within-via-then-not-each_within, then-not-each_within-via-else-not-each_within+then-not-each_within-2, then-n-k-via-then-n-k, then-n-k-via-else-n-k+then-n-k-2}

pub returns-then-s-at : goal.returns-then-s-at
returns-then-s-at c =
    let k = c.args.k.now in
    sym (none_from _ (λ v e.
    let p = point_is k.whole k.places k.low k.high c.args.s.now v e in
    elim c.then-s-at.branch [ then-s-at-via-then-s-at w ↦ w.if-s-at.true p.long | then-s-at-via-else-s-at+then-s-at-ne46 w ↦ w.if-s-at-ne46.true p.dot ]))

pub returns-then-not-each_within : goal.returns-then-not-each_within
returns-then-not-each_within c =
    let k = c.args.k.now in
    sym (none_from _ (λ v e.
    let p = point_is k.whole k.places k.low k.high c.args.s.now v e in
    let z : k.whole - 0 ≡ k.whole = omega arith in
    elim c.then-not-each_within.branch [ then-not-each_within-via-then-not-each_within w ↦ both_ways _ (sym w.if-not-each_within.ensures) (rw z p.front) | then-not-each_within-via-else-not-each_within+then-not-each_within-2 w ↦ both_ways _ (sym w.if-not-each_within-2.ensures) (rw take_rest p.back) ]))

-- what the code computes is what the digits say
says : (a q n : ℕ) (s : List ℕ) → length s ≡ a + 1 + q → n ≡ value (take (a - 0) s) * 10 ^ length (take (length s - (a + 1)) (drop (a + 1) s)) + value (take (length s - (a + 1)) (drop (a + 1) s)) → value (take a s) * 10 ^ q + value (drop (a + 1) s) ≡ n
says a q n s long e =
    let z : a - 0 ≡ a = omega arith in
    let l : length (drop (a + 1) s) ≡ q = simp length-drop (omega arith) in
    sym (rw (z, take_rest, l) at e)

pub returns-then-n-k : goal.returns-then-n-k
returns-then-n-k c =
    let k = c.args.k.now in
    let n = says k.whole k.places c.value_of_two-n.result c.args.s.now c.if-s-at.false c.value_of_two-n.ensures in
    sym (none_from _ (λ v e.
    let p = point_is k.whole k.places k.low k.high c.args.s.now v e in
    let h : c.value_of_two-n.result ≡ v.digits = sym n ∙ p.says in
    elim c.then-n-k.branch [ then-n-k-via-then-n-k w ↦ omega arith | then-n-k-via-else-n-k+then-n-k-2 w ↦ omega arith ]))

pub returns : goal.returns
returns c =
    let k = c.args.k.now in
    let z : k.whole - 0 ≡ k.whole = omega arith in
    sym (point_from k.whole k.places k.low k.high c.args.s.now c.value_of_two-n.result (record {
      long = c.if-s-at.false;
      dot = c.if-s-at-ne46.false;
      front = rw z at (sym c.if-not-each_within.ensures);
      back = rw take_rest at (sym c.if-not-each_within-2.ensures);
      says = says k.whole k.places c.value_of_two-n.result c.args.s.now c.if-s-at.false c.value_of_two-n.ensures;
      least = c.if-n-k.false;
      most = c.if-n-k-2.false;
    }))
