use Rattle.std.proofs.Common.{◌-◌, ◌<◌, ◌≤◌, length, take, drop, inl, inr, sym, subst, arith, rules}
use Rattle.model.specs.Records.{GoodTag}
use Rattle.model.specs.Walks.{Says}
use Rattle.walk.specs.Heads.{Headless}
use Rattle.walk.specs.Heads.Headless.{short, tag, digits, end}
use Rattle.walk.proofs.Heading.{named, held}
use Rattle.walk.proofs.header.read_header.Goals as goal

pub returns-in_default : goal.returns-in_default
returns-in_default c = subst (Headless _ _) (sym c.new.ensures) (short (search rules))

pub returns-then-not-good_tag : goal.returns-then-not-good_tag
returns-then-not-good_tag c =
    let l : 11 ≤ length c.args.bytes.now = search rules in
    let n = named c.args.bytes.now l in
    subst (Headless _ _) (sym c.new-then-not-good_tag.ensures) (tag l (λ g. c.if-not-good_tag.ensures (subst GoodTag (sym n.tag) g)))

pub returns-in_default-said : goal.returns-in_default-said
returns-in_default-said c =
    let l : 11 ≤ length c.args.bytes.now = search rules in
    let n = named c.args.bytes.now l in
    subst (Headless _ _) (sym c.new-in_default-said.ensures) (digits l (subst GoodTag n.tag c.if-not-good_tag.ensures) (λ k s. c.in_default-said.ensures k (subst (λ d. Says d k) (sym n.digits) s)))

pub returns-in_default-get : goal.returns-in_default-get
returns-in_default-get c =
    let l : 11 ≤ length c.args.bytes.now = search rules in
    let n = named c.args.bytes.now l in
    let short = elim c.in_default-get.ensures.lookup.0 as (λ _. length (take (length c.args.bytes.now - 11) (drop 11 c.args.bytes.now)) < c.in-Some.length) [ inl z ↦ omega arith | inr z ↦ z ] in
    subst (Headless _ _) (sym c.new-in_default-get.ensures) (end l (subst GoodTag n.tag c.if-not-good_tag.ensures) c.in-Some.length (subst (λ d. Says d c.in-Some.length) n.digits c.in-Some.ensures) (omega arith))

pub returns : goal.returns
returns c =
    let l : 11 ≤ length c.args.bytes.now = search rules in
    let n = named c.args.bytes.now l in
    let part = c.in-Some-get.ensures.lookup.0 in
    let x = held c.args.bytes.now c.in-Some.length part.1 (subst (λ d. Says d c.in-Some.length) n.digits c.in-Some.ensures) in
    rw part.2 (record { long = l; good = subst GoodTag n.tag c.if-not-good_tag.ensures; tag = n.tag; says = x.says; data_is = x.is; there = x.there })
