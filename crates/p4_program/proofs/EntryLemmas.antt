-- Patterns and arguments against what a table takes.
use Rattle.std.proofs.Common.{◌≡◌, ℕ, ◌-◌, ◌^◌, ◌%◌, ◌<◌, List, map, arith}
use Rattle.std.proofs.Math.Nat.{mod-eq_of_lt}
use Rattle.std.specs.List.{AllZip, list_any}
use Rattle.p4_program.specs.declared.typed.tables.Pattern.{Pattern}
use Rattle.p4_program.specs.declared.typed.tables.TableKey.{TableKey}
use Rattle.p4_program.specs.Entries.{KeyFits, PatternFits, PatternsFit}
use Rattle.p4_program.specs.Syntax.Lookup.{is_ternary}
use Rattle.p4_program.specs.Trees.Callables.{key_of}
use Rattle.p4_program.proofs.Zips.{all_zip_map, all_zip_unmap, list_any_map}

-- behind no bits, the rest of a number is the number
pub whole_rest : (w x count : ℕ) → count ≡ 0 → x < 2 ^ w → x % 2 ^ (w - count) ≡ x
whole_rest w x count none fits =
    let e : w - count ≡ w = omega arith in
    let below : x < 2 ^ (w - count) = rw e fits in mod-eq_of_lt below

pub keys_fit : (keys : List TableKey) (ps : List Pattern) → AllZip KeyFits keys ps → PatternsFit (map key_of keys) ps
keys_fit keys ps h = all_zip_map (λ k p. PatternFits k.match_kind k.width p) key_of keys ps h

pub fit_keys : (keys : List TableKey) (ps : List Pattern) → PatternsFit (map key_of keys) ps → AllZip KeyFits keys ps
fit_keys keys ps h = all_zip_unmap (λ k p. PatternFits k.match_kind k.width p) key_of keys ps h

pub ordered_keys : (keys : List TableKey) → list_any (λ k. is_ternary k.match_kind) (map key_of keys) ≡ list_any (λ k. is_ternary k.match_kind) keys
ordered_keys keys = list_any_map (λ k. is_ternary k.match_kind) key_of keys
