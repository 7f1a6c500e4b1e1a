-- The group with which items begin is found from the right, by what is left behind each `)` that has no partner.
use Rattle.std.proofs.Common.{◌≡◌, List, [], ◌∷◌, ◌++◌, Option, Some, None, append_assoc, refl, sym, ap, ◌∙◌, subst}
use Rattle.std.proofs.lemmas.List.{append_cancel_right}
use Rattle.p4_lexer.specs.declared.groups.Parenthesis.{Parenthesis}
use Rattle.p4_lexer.specs.declared.groups.Parenthesis.TheVariants.{Opening, Closing, Neither}
use Rattle.p4_lexer.specs.SourceWords.{Placed}
use Rattle.p4_lexer.specs.Replacement.{Item, Word, Replaced}
use Rattle.p4_lexer.specs.Annotations as a
use Rattle.p4_lexer.specs.Annotations.{AreBalanced, IsGroup, NoGroup, words_among, names_among}
use Rattle.p4_lexer.specs.Groups.{IsParenthesis}
use Rattle.p4_lexer.proofs.ParenthesisLemmas.{parenthesis, parenthesis_is, is_parenthesis}

-- what is left behind each `)` without a partner, the nearest first, with one more word in front
abbrev pub closers_with : Parenthesis → List Item → List (List Item) → List (List Item)
closers_with Opening items [] = []
closers_with Opening items (r ∷ rests) = rests
closers_with Closing items rests = items ∷ rests
closers_with Neither items rests = rests

abbrev pub closers : List Item → List (List Item)
closers [] = []
closers (Replaced name ∷ items) = closers items
closers (Word w ∷ items) = closers_with (parenthesis w) items (closers items)

-- what is left behind the partner of a word
abbrev pub partner_rest : Parenthesis → List (List Item) → Option (List Item)
partner_rest Opening [] = None
partner_rest Opening (r ∷ rests) = Some r
partner_rest Closing rests = None
partner_rest Neither rests = None

-- what is left behind the group that begins the items
abbrev pub group_rest : List Item → Option (List Item)
group_rest [] = None
group_rest (Replaced name ∷ items) = group_rest items
group_rest (Word w ∷ items) = partner_rest (parenthesis w) (closers items)

pub words_among-append : (a b : List Item) → words_among (a ++ b) ≡ words_among a ++ words_among b
words_among-append [] b = refl
words_among-append (Word w ∷ a) b = ap (λ ws. w ∷ ws) (words_among-append a b)
words_among-append (Replaced n ∷ a) b = words_among-append a b

-- the words up to a `)` without a partner are balanced
pub record Closes (items rest : List Item) : Type 0 where
  pub close : Placed
  pub front : List Item
  pub spelled : items ≡ front ++ Word close ∷ rest
  pub closes : IsParenthesis Closing close
  pub balanced : AreBalanced (words_among front)

abbrev pub Chain : List Item → List (List Item) → Type 0
Chain items [] = Unit {0}
Chain items (r ∷ rests) = Closes items r × Chain r rests

behind_name : (name : Placed) (items : List Item) (rests : List (List Item)) → Chain items rests → Chain (Replaced name ∷ items) rests
behind_name name items [] c = tt
behind_name name items (r ∷ rests) (c, more) =
    (record { close = c.close; front = Replaced name ∷ c.front; spelled = ap (λ is. Replaced name ∷ is) c.spelled; closes = c.closes; balanced = c.balanced }, more)

balanced_join : (xs : List Placed) (ys : List Placed) → AreBalanced xs → AreBalanced ys → AreBalanced (xs ++ ys)
balanced_join xs ys a.none more = more
balanced_join xs ys (a.other w words no_open no_close words_are) more = a.other w (words ++ ys) no_open no_close (balanced_join words ys words_are more)
balanced_join xs ys (a.group open_ close inside words opens closes inside_are words_are) more =
    subst AreBalanced (ap (λ ws. open_ ∷ ws) (sym (append_assoc inside (close ∷ words) ys)))
    (a.group open_ close inside (words ++ ys) opens closes inside_are (balanced_join words ys words_are more))

behind_word : (p : Parenthesis) (w : Placed) (items : List Item) (rests : List (List Item)) → IsParenthesis p w → Chain items rests → Chain (Word w ∷ items) (closers_with p items rests)
behind_word Opening w items [] is c = tt
behind_word Opening w items (r ∷ []) is c = tt
behind_word Opening w items (r ∷ s ∷ rests) is (inner, (outer, more)) =
    let front : List Item = Word w ∷ inner.front ++ Word inner.close ∷ outer.front in
    let words : words_among front ≡ w ∷ words_among inner.front ++ inner.close ∷ words_among outer.front = ap (λ ws. w ∷ ws) (words_among-append inner.front (Word inner.close ∷ outer.front)) in (
      record {
        close = outer.close;
        front = front;
        spelled = ap (λ is. Word w ∷ is) (inner.spelled ∙ ap (λ is. inner.front ++ Word inner.close ∷ is) outer.spelled ∙ sym (append_assoc inner.front (Word inner.close ∷ outer.front) (Word outer.close ∷ s)));
        closes = outer.closes;
        balanced = subst AreBalanced (sym words) (a.group w inner.close (words_among inner.front) (words_among outer.front) is inner.closes inner.balanced outer.balanced);
      },
      more,
    )
behind_word Closing w items rests is c = (record { close = w; front = []; spelled = refl; closes = is; balanced = a.none }, c)
behind_word Neither w items [] is c = tt
behind_word Neither w items (r ∷ rests) is (c, more) = (
  record {
    close = c.close;
    front = Word w ∷ c.front;
    spelled = ap (λ is. Word w ∷ is) c.spelled;
    closes = c.closes;
    balanced = a.other w (words_among c.front) is.0 is.1 c.balanced;
  },
  more,
)

pub chain : (items : List Item) → Chain items (closers items)
chain [] = tt
chain (Replaced name ∷ items) = behind_name name items (closers items) (chain items)
chain (Word w ∷ items) = behind_word (parenthesis w) w items (closers items) (parenthesis_is w) (chain items)

-- a group and what is left
pub record Begun (items rest : List Item) : Type 0 where
  pub group : List Item
  pub inside : List Placed
  pub spelled : items ≡ group ++ rest
  pub is_group : IsGroup group inside

begun_word : (p : Parenthesis) (w : Placed) (items : List Item) (rests : List (List Item)) (rest : List Item) → IsParenthesis p w → Chain items rests → partner_rest p rests ≡ Some rest → Begun (Word w ∷ items) rest
begun_word Opening w items [] rest is c e = absurd cc
begun_word Opening w items (r ∷ rests) rest is (c, more) e =
    let same : r ≡ rest = cc in record {
      group = Word w ∷ c.front ++ Word c.close ∷ [];
      inside = words_among c.front;
      spelled = ap (λ is. Word w ∷ is) (c.spelled ∙ ap (λ is. c.front ++ Word c.close ∷ is) same ∙ sym (append_assoc c.front (Word c.close ∷ []) rest));
      is_group = record {
        open_ = w;
        close = c.close;
        front = Word w ∷ c.front;
        last = refl;
        spelled = ap (λ ws. w ∷ ws) (words_among-append c.front (Word c.close ∷ []));
        opens = is;
        closes = c.closes;
        balanced = c.balanced;
      };
    }
begun_word Closing w items rests rest is c e = absurd cc
begun_word Neither w items rests rest is c e = absurd cc

-- what is found is a group
pub begun : (items rest : List Item) → group_rest items ≡ Some rest → Begun items rest
begun [] rest e = absurd cc
begun (Replaced name ∷ items) rest e =
    let b = begun items rest e in record {
      group = Replaced name ∷ b.group;
      inside = b.inside;
      spelled = ap (λ is. Replaced name ∷ is) b.spelled;
      is_group = record {
        open_ = b.is_group.open_;
        close = b.is_group.close;
        front = Replaced name ∷ b.is_group.front;
        last = ap (λ is. Replaced name ∷ is) b.is_group.last;
        spelled = b.is_group.spelled;
        opens = b.is_group.opens;
        closes = b.is_group.closes;
        balanced = b.is_group.balanced;
      };
    }
begun (Word w ∷ items) rest e = begun_word (parenthesis w) w items (closers items) rest (parenthesis_is w) (chain items) e

-- items whose first word is known, with the names before it left out
pub record FirstWord (front : List Item) (w : Placed) (words : List Placed) : Type 0 where
  pub before : List Item
  pub behind : List Item
  pub parts : front ≡ before ++ Word w ∷ behind
  pub spelled : words_among behind ≡ words
  pub closers_same : (rest : List Item) → closers (front ++ rest) ≡ closers (Word w ∷ behind ++ rest)
  pub group_same : (rest : List Item) → group_rest (front ++ rest) ≡ group_rest (Word w ∷ behind ++ rest)

first_word : (front : List Item) (w : Placed) (words : List Placed) → words_among front ≡ w ∷ words → FirstWord front w words
first_word [] w words e = absurd cc
first_word (Replaced name ∷ front) w words e =
    let f = first_word front w words e in
    record { before = Replaced name ∷ f.before; behind = f.behind; parts = ap (λ is. Replaced name ∷ is) f.parts; spelled = f.spelled; closers_same = f.closers_same; group_same = f.group_same }
first_word (Word v ∷ front) w words e =
    let same : v ≡ w = cc in record {
      before = [];
      behind = front;
      parts = ap (λ u. Word u ∷ front) same;
      spelled = cc;
      closers_same = λ rest. ap (λ u. closers (Word u ∷ front ++ rest)) same;
      group_same = λ rest. ap (λ u. group_rest (Word u ∷ front ++ rest)) same;
    }

no_words : (front rest : List Item) → words_among front ≡ [] → closers (front ++ rest) ≡ closers rest
no_words [] rest e = refl
no_words (Replaced name ∷ front) rest e = no_words front rest e
no_words (Word w ∷ front) rest e = absurd cc

-- the items up to the end of some words
record Split (items : List Item) (words more : List Placed) : Type 0 where
  front : List Item
  behind : List Item
  spelled : items ≡ front ++ behind
  front_words : words_among front ≡ words
  behind_words : words_among behind ≡ more

split_name : (name : Placed) (items : List Item) (words more : List Placed) → Split items words more → Split (Replaced name ∷ items) words more
split_name name items words more s = record { front = Replaced name ∷ s.front; behind = s.behind; spelled = ap (λ is. Replaced name ∷ is) s.spelled; front_words = s.front_words; behind_words = s.behind_words }

split_word : (v w : Placed) (items : List Item) (words more : List Placed) → v ≡ w → Split items words more → Split (Word v ∷ items) (w ∷ words) more
split_word v w items words more same s = record {
  front = Word v ∷ s.front;
  behind = s.behind;
  spelled = ap (λ is. Word v ∷ is) s.spelled;
  front_words = ap (λ u. u ∷ words_among s.front) same ∙ ap (λ ws. w ∷ ws) s.front_words;
  behind_words = s.behind_words;
}

split : (items : List Item) (words more : List Placed) → words_among items ≡ words ++ more → Split items words more
split items [] more e = record { front = []; behind = items; spelled = refl; front_words = refl; behind_words = e }
split [] (w ∷ words) more e = absurd cc
split (Replaced name ∷ items) (w ∷ words) more e = split_name name items (w ∷ words) more (split items (w ∷ words) more e)
split (Word v ∷ items) (w ∷ words) more e = split_word v w items words more (cc) (split items words more cc)

abbrev ClosersStay : List Placed → Type 0
ClosersStay words = (front rest : List Item) → words_among front ≡ words → closers (front ++ rest) ≡ closers rest

with_closing : (w : Placed) (items : List Item) → IsParenthesis Closing w → closers (Word w ∷ items) ≡ items ∷ closers items
with_closing w items is = ap (λ p. closers_with p items (closers items)) (is_parenthesis Closing w is)

stay_other : (w : Placed) (words : List Placed) → IsParenthesis Neither w → ClosersStay words → ClosersStay (w ∷ words)
stay_other w words is stay front rest e =
    let f = first_word front w words e in
    f.closers_same rest ∙ ap (λ p. closers_with p (f.behind ++ rest) (closers (f.behind ++ rest))) (is_parenthesis Neither w is) ∙ stay f.behind rest f.spelled

-- what is left behind a balanced part and a `)`
pub record Ended (items rest : List Item) (more : List Placed) : Type 0 where
  pub before : List Item
  pub close : Placed
  pub behind : List Item
  pub parts : items ≡ before ++ Word close ∷ behind
  pub words : words_among behind ≡ more
  pub closers_are : closers (items ++ rest) ≡ (behind ++ rest) ∷ closers (behind ++ rest)

ended : (inside more : List Placed) (close : Placed) (items rest : List Item) → IsParenthesis Closing close → ClosersStay inside → words_among items ≡ inside ++ close ∷ more → Ended items rest more
ended inside more close items rest is stay e =
    let s = split items inside (close ∷ more) e in
    let f = first_word s.behind close more s.behind_words in record {
      before = s.front ++ f.before;
      close = close;
      behind = f.behind;
      parts = s.spelled ∙ ap (λ is. s.front ++ is) f.parts ∙ sym (append_assoc s.front f.before (Word close ∷ f.behind));
      words = f.spelled;
      closers_are = ap (λ is. closers (is ++ rest)) s.spelled ∙ ap closers (append_assoc s.front s.behind rest) ∙ stay s.front (s.behind ++ rest) s.front_words ∙ f.closers_same rest ∙ with_closing close (f.behind ++ rest) is;
    }

stay_group : (open_ close : Placed) (inside words : List Placed) → IsParenthesis Opening open_ → IsParenthesis Closing close → ClosersStay inside → ClosersStay words → ClosersStay (open_ ∷ inside ++ close ∷ words)
stay_group open_ close inside words opens closes stay_inside stay front rest e =
    let f = first_word front open_ (inside ++ close ∷ words) e in
    let g = ended inside words close f.behind rest closes stay_inside f.spelled in
    f.closers_same rest ∙ ap (λ p. closers_with p (f.behind ++ rest) (closers (f.behind ++ rest))) (is_parenthesis Opening open_ opens)
    ∙ ap (λ rests. closers_with Opening (f.behind ++ rest) rests) g.closers_are ∙ stay g.behind rest g.words

pub balanced_stay : (words : List Placed) → AreBalanced words → ClosersStay words
balanced_stay words a.none = no_words
balanced_stay words (a.other w more no_open no_close are) = stay_other w more (no_open, no_close) (balanced_stay more are)
balanced_stay words (a.group open_ close inside more opens closes inside_are are) =
    stay_group open_ close inside more opens closes (balanced_stay inside inside_are) (balanced_stay more are)

not_empty : {T : Type 0} (xs ys : List T) (x : T) → xs ++ x ∷ ys ≡ [] → ⊥
not_empty [] ys x e = cc
not_empty (y ∷ xs) ys x e = cc

-- where a word is the last item, no item without a word is behind
nothing_behind : (before front behind : List Item) (c close : Placed) → before ++ Word c ∷ behind ≡ front ++ Word close ∷ [] → words_among behind ≡ [] → behind ≡ []
nothing_behind [] [] behind c close e none = cc
nothing_behind [] (i ∷ front) behind c close e none =
    let tail : behind ≡ front ++ Word close ∷ [] = cc in
    absurd (not_empty (words_among front) [] close (sym (words_among-append front (Word close ∷ [])) ∙ ap words_among (sym tail) ∙ none))
nothing_behind (i ∷ before) [] behind c close e none = let tail : before ++ Word c ∷ behind ≡ [] = cc in absurd (not_empty before behind (Word c) tail)
nothing_behind (i ∷ before) (j ∷ front) behind c close e none = nothing_behind before front behind c close (cc) none

-- a group with the items behind it is found
pub group_found : (group rest : List Item) (inside : List Placed) → IsGroup group inside → group_rest (group ++ rest) ≡ Some rest
group_found group rest inside g =
    let f = first_word group g.open_ (inside ++ g.close ∷ []) g.spelled in
    let e = ended inside [] g.close f.behind rest g.closes (balanced_stay inside g.balanced) f.spelled in
    let whole : (f.before ++ Word g.open_ ∷ e.before) ++ Word e.close ∷ e.behind ≡ g.front ++ Word g.close ∷ [] =
    append_assoc f.before (Word g.open_ ∷ e.before) (Word e.close ∷ e.behind) ∙ ap (λ is. f.before ++ Word g.open_ ∷ is) (sym e.parts) ∙ sym f.parts ∙ g.last in
    let none : e.behind ≡ [] = nothing_behind (f.before ++ Word g.open_ ∷ e.before) g.front e.behind e.close g.close whole e.words in
    f.group_same rest ∙ ap (λ p. partner_rest p (closers (f.behind ++ rest))) (is_parenthesis Opening g.open_ g.opens)
    ∙ ap (partner_rest Opening) e.closers_are ∙ ap (λ is. Some (is ++ rest)) none

-- no group begins the items exactly where none is found
pub no_group : (items : List Item) → group_rest items ≡ None → NoGroup items
no_group items none group rest inside e g = let h : Some rest ≡ None = sym (group_found group rest inside g) ∙ ap group_rest (sym e) ∙ none in cc

pub no_group_found : (items : List Item) → NoGroup items → group_rest items ≡ None
no_group_found items nothing = by (group_rest items) refl where
  by : (o : Option (List Item)) → group_rest items ≡ o → group_rest items ≡ None
  by None e = e
  by (Some rest) e = let b = begun items rest e in absurd (nothing b.group rest b.inside b.spelled b.is_group)

-- A group is determined, with its words and what is left.
pub record SameGroup (a b : List Item) (v w : List Placed) (r s : List Item) : Type 0 where
  pub groups : a ≡ b
  pub insides : v ≡ w
  pub rests : r ≡ s

pub one_group : (a b r s : List Item) (v w : List Placed) → IsGroup a v → IsGroup b w → a ++ r ≡ b ++ s → SameGroup a b v w r s
one_group a b r s v w g h e =
    let found : Some r ≡ Some s = sym (group_found a r v g) ∙ ap group_rest e ∙ group_found b s w h in
    let rests : r ≡ s = cc in
    let groups : a ≡ b = append_cancel_right a b s (ap (λ is. a ++ is) (sym rests) ∙ e) in
    let words : g.open_ ∷ v ++ g.close ∷ [] ≡ h.open_ ∷ w ++ h.close ∷ [] = sym g.spelled ∙ ap words_among groups ∙ h.spelled in
    let insides : v ++ g.close ∷ [] ≡ w ++ h.close ∷ [] = cc in
    record { groups = groups; insides = (last_same v w g.close h.close insides).0; rests = rests } where
      last_same : (a b : List Placed) (v w : Placed) → a ++ v ∷ [] ≡ b ++ w ∷ [] → (a ≡ b) × (v ≡ w)
      last_same [] [] v w e = (refl, cc)
      last_same [] (i ∷ b) v w e = let tail : [] ≡ b ++ w ∷ [] = cc in absurd (not_empty b [] w (sym tail))
      last_same (i ∷ a) [] v w e = let tail : a ++ v ∷ [] ≡ [] = cc in absurd (not_empty a [] v tail)
      last_same (i ∷ a) (j ∷ b) v w e =
          let s = last_same a b v w cc in
          let rest : a ≡ b = s.0 in
          (cc, s.1)
