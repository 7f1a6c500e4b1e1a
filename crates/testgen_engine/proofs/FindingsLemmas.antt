-- What is right so far: findings that are right as a whole, and those of a search that has found nothing yet.
use Rattle.std.proofs.Common.{◌≡◌, ℕ, List, [], None, Some, IsSome, length, replicate, inl, inr, refl, sym, ap, ◌∙◌, subst, arith}
use Prim.Native.Nat.{zero, suc}
use Rattle.std.proofs.lemmas.List.{length-replicate}
use Rattle.std.specs.List.{slice_get}
use Rattle.tg_base.specs.declared.desk.Out.{Out}
use Rattle.p4_program.specs.Blocks.{places_of}
use Rattle.p4_program.specs.Numbered.{numbered}
use Rattle.p4_program.specs.declared.bounds.Bounds.{Bounds}
use Rattle.p4_program.specs.declared.program.Program.{Program}
use Rattle.p4_meaning.specs.Chosen.{least_credit, Chosen}
use Rattle.p4_meaning.specs.Verdicts.{RightVerdict, RightVerdicts, credits_from}
use Rattle.p4_meaning.specs.declared.test.Test.{Test}
use Rattle.p4_meaning.specs.declared.verdict.Verdict.TheVariants.{Undecided}
use Rattle.testgen_engine.specs.Findings.{Findings, AreRight, IsPrefix, IsRightPrefix, text_of}
use Rattle.testgen_engine.proofs.ChosenLemmas.{numbered-replicate}

-- prefixes of the texts of right findings are right
pub right_prefix : (f : Findings) (taken : Out → List ℕ) → AreRight f → ((out : Out) → IsPrefix (taken out) (text_of f out)) → IsRightPrefix f.program f.bounds taken
right_prefix f taken right prefixes = record {
  findings = f;
  program = refl;
  bounds = refl;
  right = right.so_far;
  prefixes = prefixes;
  report = inr right;
}

-- nothing is found: each statement stands as undecided
abbrev nothing_found : Program → Bounds → Findings
nothing_found p b = record { bounds = b; program = p; verdicts = replicate (length (places_of p)) Undecided; tests = []; log = [] }

-- so there are no credits
no_credits : (first count test : ℕ) → credits_from first (replicate count Undecided) test ≡ []
no_credits first zero test = refl
no_credits first (suc count) test = no_credits (suc first) count test

no_least : (count test least : ℕ) → least_credit (replicate count Undecided) test ≡ Some least → ⊥
no_least count test least e = let none : Some least ≡ None = sym e ∙ ap (λ xs. slice_get xs 0) (no_credits 1 count test) in cc

no_test : (number : ℕ) (t : Test) → numbered {X = Test} [] number ≡ Some t → ⊥
no_test zero t e = cc
no_test (suc number) t e = cc

some_test : (number : ℕ) → IsSome (numbered {X = Test} [] number) → ⊥
some_test zero h = cc
some_test (suc number) h = cc

undecided_right : (p : Program) (b : Bounds) → RightVerdicts p b (replicate (length (places_of p)) Undecided) []
undecided_right p b = record {
  one_each = length-replicate (length (places_of p)) Undecided;
  right = λ statement v e.
      let named = numbered-replicate (length (places_of p)) statement Undecided v e in
      subst (RightVerdict p b [] statement) (sym named.2) tt;
}

nothing_chosen : (p : Program) (b : Bounds) → Chosen p b (replicate (length (places_of p)) Undecided) []
nothing_chosen p b = record {
  credited = λ test h. absurd (some_test test h);
  rising = λ first second s t less e f. absurd (no_least (length (places_of p)) first s e);
  earlier = λ number t least statement v e f low good g. absurd (no_test number t e);
  opening = λ statement v e other good. absurd (other (numbered-replicate (length (places_of p)) statement Undecided v e).2);
}

-- and nothing that is taken is right
pub nothing_taken : (p : Program) (b : Bounds) → IsRightPrefix p b (λ out. [])
nothing_taken p b = record {
  findings = nothing_found p b;
  program = refl;
  bounds = refl;
  right = record {
    verdicts = undecided_right p b;
    chosen = nothing_chosen p b;
    in_order = λ number least statement credit before e. absurd (no_least (length (places_of p)) number least credit);
    credited = λ number t least statement v e f low good g. absurd (no_test number t e);
    hold = λ number t e. absurd (no_test number t e);
    tight = λ number t e. absurd (no_test number t e);
    log = record {
      records = λ place entry e. cc;
      within = λ statement. omega arith;
      nibbles = λ number t e undecided. absurd (no_test number t e);
    };
  };
  prefixes = λ out. record { rest = text_of (nothing_found p b) out; whole_is = refl };
  report = inl refl;
}
