-- How the logic stores a derivation.
use Rattle.std.proofs.Common.{◌≡◌, ◌≢◌, ℕ, ap, arith}
use Rattle.std.specs.Coded.{Coded, coded_ℕ}
use base.Stored.{Gv, gnil, gnum, gcons}
use Rattle.p4_lexer.specs.contracts.token.Token as token
use Rattle.ll1_engine.specs.contracts.grammar.Row as row
use Rattle.p4_grammar.specs.Parses.{Parse, End, Word, Node}

abbrev head : Gv → Gv
head gnil = gnil
head (gnum n) = gnil
head (gcons a b) = a

abbrev tail : Gv → Gv
tail gnil = gnil
tail (gnum n) = gnil
tail (gcons a b) = b

apart : (m n : ℕ) {a b : Gv} → gcons (gnum m) a ≡ gcons (gnum n) b → m ≢ n → ⊥
apart m n p other = other (cc)

abbrev stored : Parse → Gv
stored End = gcons (gnum 0) gnil
stored (Word t rest) = gcons (gnum 1) (gcons (token.the_row.coded.code t) (stored rest))
stored (Node k r under rest) = gcons (gnum 2) (gcons (coded_ℕ.code k) (gcons (row.the_row.coded.code r) (gcons (stored under) (stored rest))))

pub told : (x y : Parse) → stored x ≡ stored y → x ≡ y
told End End p = λ i. End
told End (Word t rest) p = absurd (apart 0 1 p (omega arith))
told End (Node k r under rest) p = absurd (apart 0 2 p (omega arith))
told (Word t rest) End p = absurd (apart 1 0 p (omega arith))
told (Word t rest) (Word u more) p = λ i. Word (token.the_row.coded.inj t u (ap (λ g. head (tail g)) p) i) (told rest more (ap (λ g. tail (tail g)) p) i)
told (Word t rest) (Node k r under more) p = absurd (apart 1 2 p (omega arith))
told (Node k r under rest) End p = absurd (apart 2 0 p (omega arith))
told (Node k r under rest) (Word t more) p = absurd (apart 2 1 p (omega arith))
told (Node k r under rest) (Node j s inner more) p =
    λ i. Node (coded_ℕ.inj k j (ap (λ g. head (tail g)) p) i) (row.the_row.coded.inj r s (ap (λ g. head (tail (tail g))) p) i)
    (told under inner (ap (λ g. head (tail (tail (tail g)))) p) i) (told rest more (ap (λ g. tail (tail (tail (tail g)))) p) i)

abbrev pub parse_code : Coded Parse
parse_code = record { code = stored; inj = told }
