-- What notes of taken bytes add to each output.
use Rattle.std.proofs.Common.{◌≡◌, ◌≢◌, ℕ, Bool, true, false, true≢false, List, [], ◌∷◌, ◌++◌, map, nat_eq, refl, sym, ap, ◌∙◌, rules, arith}
use Rattle.std.specs.List.{filter}
use Rattle.std.proofs.lemmas.List.{map-append, append-nil}
use Rattle.std.proofs.lemmas.List.Elements.{filter-append}
use Rattle.std.proofs.lemmas.Bool.Decides.{Decides-eqb}
use Rattle.tg_base.specs.declared.desk.Out.{Out}
use Rattle.tg_base.specs.declared.desk.Out.TheVariants.{Report, Proofs, Test, Notes}
use Rattle.testgen_engine.specs.Outputs.{is_same}
use Rattle.testgen_program.specs.Taken.{bytes_for}

same_self : (out : Out) → is_same out out ≡ true
same_self Report = refl
same_self Proofs = refl
same_self (Test number) = (Decides-eqb number number).1 refl
same_self Notes = refl

same_so : (out other : Out) → is_same out other ≡ true → other ≡ out
same_so Report Report same = refl
same_so Proofs Proofs same = refl
same_so (Test a) (Test b) same = ap Test (sym ((Decides-eqb a b).0 same))
same_so Notes Notes same = refl
same_so out other same = absurd (true≢false (sym same))

fails : (b : Bool) → (b ≡ true → ⊥) → b ≡ false
fails true denied = absurd (denied refl)
fails false denied = refl

same_other : (out other : Out) → other ≢ out → is_same out other ≡ false
same_other out other differs = fails (is_same out other) (λ same. differs (same_so out other same))

bytes_append : (out : Out) (a b : List (Out × ℕ)) → bytes_for out (a ++ b) ≡ bytes_for out a ++ bytes_for out b
bytes_append out a b =
    ap (map (λ pair. pair.1)) (filter-append (λ pair. is_same pair.0 out) a b)
    ∙ map-append (λ pair. pair.1) (filter (λ pair. is_same pair.0 out) a) (filter (λ pair. is_same pair.0 out) b)

bytes_own : (out : Out) (bytes : List ℕ) → bytes_for out (map (λ byte. (out, byte)) bytes) ≡ bytes
bytes_own out [] = refl
bytes_own out (byte ∷ bytes) = rw (same_self out) (ap (λ more. byte ∷ more) (bytes_own out bytes))

bytes_none : (out other : Out) (bytes : List ℕ) → other ≢ out → bytes_for other (map (λ byte. (out, byte)) bytes) ≡ []
bytes_none out other [] differs = refl
bytes_none out other (byte ∷ bytes) differs = rw (same_other out other differs) (bytes_none out other bytes differs)

-- the output that took the bytes has them at its end
pub taken_more : (out : Out) (old new : List (Out × ℕ)) (bytes : List ℕ) → new ≡ old ++ map (λ byte. (out, byte)) bytes
    → bytes_for out new ≡ bytes_for out old ++ bytes
taken_more out old new bytes noted =
    ap (bytes_for out) noted
    ∙ bytes_append out old (map (λ byte. (out, byte)) bytes)
    ∙ ap (λ more. bytes_for out old ++ more) (bytes_own out bytes)

-- and the others have what they had
pub taken_less : (out other : Out) (old new : List (Out × ℕ)) (bytes : List ℕ) → new ≡ old ++ map (λ byte. (out, byte)) bytes
    → other ≢ out → bytes_for other new ≡ bytes_for other old
taken_less out other old new bytes noted differs =
    ap (bytes_for other) noted
    ∙ bytes_append other old (map (λ byte. (out, byte)) bytes)
    ∙ ap (λ more. bytes_for other old ++ more) (bytes_none out other bytes differs)
    ∙ append-nil (bytes_for other old)
