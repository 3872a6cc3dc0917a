-- A kind's readings under another name: checked, and spelled.
use Rattle.std.proofs.Common.{◌≡◌, ℕ, List, Some, Ok, Err, Option, Result, ap, ◌∙◌}
use Rattle.refusal.specs.declared.fault.Fault.{Fault}
use Rattle.kind.specs.Kinds.{Checked, Spelled}
use Rattle.fields.specs.Tagged.{lifted, tagged, lifted_is}

pub checked : {V U : Type 0} (h : V → U) (f : List ℕ → Option V) (s : List ℕ) (r : Result (Unit {0}) Fault) → Checked f s r → Checked (tagged h f) s r
checked h f s (Ok u) p = (h p.0, ap (lifted h) p.1)
checked h f s (Err e) p = (ap (lifted h) p.0, p.1)

pub spelled : {V U : Type 0} (h : V → U) → ((a b : V) → h a ≡ h b → a ≡ b) → (f : List ℕ → Option V) (v : V) (old new : List ℕ) (r : Result (Unit {0}) Fault) → Spelled f v old new r → Spelled (tagged h f) (h v) old new r
spelled h one f v old new (Ok u) p = ap (lifted h) p
spelled h one f v old new (Err e) p = (p.0, p.1, λ s l q. let x = lifted_is h (f s) (h v) q in p.2 s l (x.1 ∙ ap Some (one x.0 v x.2)))
