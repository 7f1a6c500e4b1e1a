-- The table of words, as the walk over a dag uses it: it has the words of a node's operands, and grows by the node's word.
use Rattle.std.proofs.Common.{◌≡◌, ℕ, ◌+◌, ◌<◌, ◌≤◌, Bool, true, false, List, [], ◌∷◌, ◌++◌, Some, length, slice_get, sym, ap, ◌∙◌, subst, true≢false, arith}
use Rattle.std.specs.Prelude.{Result, Ok, Err, IfOk}
use Rattle.std.proofs.lemmas.List.{length-append}
use Rattle.cnf_core.specs.declared.derivation.Var.{Var}
use Rattle.term_dag.specs.Mention.{IsOperand}
use Rattle.term_dag.specs.Width.{IsDag}
use Rattle.term_dag.specs.declared.node.Node.{Node}
use Rattle.term_dag.specs.declared.node.Term.{Term}
use Rattle.term_dag.proofs.BoundLemmas.{term_is_width}
use Rattle.bit_blaster.specs.declared.wire.Wire.{Wire}
use Rattle.bit_blaster.specs.Netlist.{Netlist, Extends}
use Rattle.bit_blaster.specs.TermWord.{HasOperandWords, IsNodeWord, IsWordOf, IsWordTable}
use Rattle.bit_blaster.proofs.NetlistLemmas.{extends_along}
use Rattle.bit_blaster.proofs.TermWordLemmas.{one_more_word, word_of_node}

some_same : {X : Type 0} (x y : X) → Some x ≡ Some y → x ≡ y
some_same x y e = grind arith

pub ok_along : {A E : Type 0} (r : Result A E) (P Q : A → Type 0) → ((a : A) → P a → Q a) → IfOk r P → IfOk r Q
ok_along (Ok a) P Q step h = step a h
ok_along (Err e) P Q step h = tt

module _ (nodes : List Node) (vars : List Var) (net : Netlist) (node : Node) (table : List (List Wire)) (words : HasOperandWords nodes vars net node table) where
  pub operand_word : (made : Node) → node ≡ made → (a : Term) (word : List Wire) → IsOperand made a → slice_get table a.number ≡ Some word →
      IsWordOf nodes vars net a word
  operand_word made is a word operand at = words.each a word (subst (λ (n : Node). IsOperand n a) (sym is) operand) at

pub some_wire : (nodes : List Node) → IsDag nodes → (vars : List Var) (net : Netlist) (a : Term) (word : List Wire) → a.number < length nodes →
    IsWordOf nodes vars net a word → 1 ≤ length word
some_wire nodes dag vars net a word within is = omega (arith, is.long, (term_is_width nodes dag a within).some_bit)

-- the words so far, of a circuit that has grown
pub record AreWordsSoFar (nodes : List Node) (vars : List Var) (old net : Netlist) (marks : List Bool) (table : List (List Wire)) (number : ℕ) : Type 0 where
  pub extends : Extends old net
  pub long : length table ≡ number
  pub words : IsWordTable nodes vars net marks table

module _ (nodes : List Node) (dag : IsDag nodes) (vars : List Var) (old now new : Netlist) (marks : List Bool) (table grown : List (List Wire))
    (number : ℕ) (so_far : AreWordsSoFar nodes vars old now marks table number) (extends : Extends now new) (pushed word : List Wire)
    (is : grown ≡ table ++ pushed ∷ []) where
  grown_by : (slice_get marks number ≡ Some true → IsWordOf nodes vars new record { number = number } pushed) →
      AreWordsSoFar nodes vars old new marks grown (number + 1)
  grown_by here = record {
    extends = extends_along old now new so_far.extends extends;
    long = omega (arith, ap length is, length-append table (pushed ∷ []), so_far.long);
    words =
        subst (IsWordTable nodes vars new marks) (sym is)
        (one_more_word nodes dag vars now new marks table pushed number extends so_far.words so_far.long here);
  }

  pub words_marked : (node : Node) → slice_get nodes number ≡ Some node → pushed ≡ word → IsNodeWord nodes vars new node word →
      AreWordsSoFar nodes vars old new marks grown (number + 1)
  words_marked node at same right =
      grown_by (λ m. subst (IsWordOf nodes vars new record { number = number }) (sym same)
      (word_of_node nodes dag vars new record { number = number } node word at right))

  pub words_unmarked : slice_get marks number ≡ Some false → AreWordsSoFar nodes vars old new marks grown (number + 1)
  words_unmarked unmarked = grown_by (λ m. absurd (true≢false (some_same true false (sym m ∙ unmarked))))
