-- Propagators that extend others, what undoing gives back, and what stays set.
use Rattle.std.proofs.Common.{◌≡◌, ℕ, List, Option, None, refl, [], ◌∷◌, ◌++◌, length, take, ap, sym, ◌∙◌, subst, append_assoc}
use Rattle.std.specs.Prelude.{Result, Ok, Err, OnOk, Contains}
use Rattle.std.proofs.Math.Seq.{take-append_seam}
use Rattle.std.proofs.lemmas.List.{append-nil}
use Rattle.std.proofs.lemmas.List.Elements.{Contains-append_left}
use Rattle.cnf_core.specs.declared.formula.Lit.{Lit}
use Rattle.unit_propagation.specs.Propagated.{AreAllSet}
use Rattle.unit_propagation.specs.Propagation.{Propagation, Extends, Continues, IsFull, decisions, with_decision, undone}

pub extends_itself : (p : Propagation) → Extends p p
extends_itself p = record {
  width = refl;
  clauses = refl;
  more = [];
  trail = sym (append-nil p.trail);
  more_reasons = [];
  reasons = sym (append-nil p.reasons);
}

pub extends_then : (a b c : Propagation) → Extends a b → Extends b c → Extends a c
extends_then a b c first then = record {
  width = then.width ∙ first.width;
  clauses = then.clauses ∙ first.clauses;
  more = first.more ++ then.more;
  trail = then.trail ∙ ap (λ (t : List Lit). t ++ then.more) first.trail ∙ append_assoc a.trail first.more then.more;
  more_reasons = first.more_reasons ++ then.more_reasons;
  reasons = then.reasons ∙ ap (λ (t : List (Option ℕ)). t ++ then.more_reasons) first.reasons ∙ append_assoc a.reasons first.more_reasons then.more_reasons;
}

pub extends_continues : (a b : Propagation) → Continues a b → Extends a b
extends_continues a b h = record {
  width = h.width;
  clauses = h.clauses;
  more = h.more;
  trail = h.trail;
  more_reasons = h.more_reasons;
  reasons = h.reasons;
}

pub extends_decision : (a b : Propagation) (l : Lit) → b ≡ with_decision a l → Extends a b
extends_decision a b l e = subst (Extends a) (sym e) (record {
  width = refl;
  clauses = refl;
  more = l ∷ [];
  trail = refl;
  more_reasons = None ∷ [];
  reasons = refl;
})

-- a literal decided, and what follows
pub extends_both : (a b c : Propagation) (l : Lit) → b ≡ with_decision a l → Continues b c → Extends a c
extends_both a b c l decides continues = extends_then a b c (extends_decision a b l decides) (extends_continues b c continues)

pub extends_contains : (a b : Propagation) (l : Lit) → Extends a b → Contains a.trail l → Contains b.trail l
extends_contains a b l h stands = subst (λ (t : List Lit). Contains t l) (sym h.trail) (Contains-append_left a.trail h.more l stands)

abbrev over : ℕ → List (List Lit) → List Lit → List (Option ℕ) → Propagation
over width clauses trail reasons = record { width = width; clauses = clauses; trail = trail; reasons = reasons }

-- what was set since is taken back
pub extends_undone : (a b c : Propagation) (n : ℕ) → Extends a b → n ≡ length a.trail → n ≡ length a.reasons → c ≡ undone b n → c ≡ a
extends_undone a b c n h trail_is reasons_is undone_is =
    undone_is
    ∙ ap (λ (w : ℕ). over w b.clauses (take n b.trail) (take n b.reasons)) h.width
    ∙ ap (λ (cs : List (List Lit)). over a.width cs (take n b.trail) (take n b.reasons)) h.clauses
    ∙ ap (λ (t : List Lit). over a.width a.clauses t (take n b.reasons)) trail
    ∙ ap (λ (rs : List (Option ℕ)). over a.width a.clauses a.trail rs) reasons where
      trail : take n b.trail ≡ a.trail
      trail = ap (take n) h.trail ∙ ap (λ (i : ℕ). take i (a.trail ++ h.more)) trail_is ∙ take-append_seam a.trail h.more

      reasons : take n b.reasons ≡ a.reasons
      reasons = ap (take n) h.reasons ∙ ap (λ (i : ℕ). take i (a.reasons ++ h.more_reasons)) reasons_is ∙ take-append_seam a.reasons h.more_reasons

-- propagation has set what follows
pub full_continues : (a b : Propagation) → Continues a b → IsFull a b → IsFull b b
full_continues a b h full =
    subst (λ (ds : List Lit). AreAllSet b.clauses ds b.trail) (sym h.decides) (subst (λ (cs : List (List Lit)). AreAllSet cs (decisions a) b.trail) (sym h.clauses) full)

-- and so does what came of a call
pub extends_on_ok : (X E : Type 0) (a b c : Propagation) (r : Result X E) → Extends a b → OnOk r (Extends b c) → OnOk r (Extends a c)
extends_on_ok X E a b c (Ok x) first then = extends_then a b c first then
extends_on_ok X E a b c (Err e) first then = tt
