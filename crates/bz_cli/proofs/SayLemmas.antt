-- How the program finds what says the limit on marks among the values.
use Rattle.std.proofs.Common.{◌≡◌, ◌⊎◌, List, [], ◌∷◌, ◌++◌, codes, inl, inr, refl, sym, ap, subst, ◌∙◌}
use Rattle.std.specs.Prelude.{Option, Some, None}
use Rattle.bz_cli.specs.CommandLine.{Text}
use Rattle.bz_cli.specs.Inside.Arrangement.{Say, SayFirst}

-- it comes first
pub say-first : (words values : List Text) (marks : Option Text) → SayFirst words values marks → Say words values marks
say-first words values marks h = record { before = []; option = h.option; after = values; are = h.are; values_are = refl; say = h.say }

-- it comes behind a value
pub say-later : (word : Text) (words values : List Text) (marks : Option Text) → Say words values marks → Say (word ∷ words) (word ∷ values) marks
say-later word words values marks h = record {
  before = word ∷ h.before;
  option = h.option;
  after = h.after;
  are = ap (λ (ws : List Text). word ∷ ws) h.are;
  values_are = ap (λ (vs : List Text). word ∷ vs) h.values_are;
  say = h.say;
}

-- there is a word and a value like it, and behind them the rest is said
pub record SayLater (words values : List Text) (marks : Option Text) : Type 0 where
  pub word : Text
  pub words_left : List Text
  pub values_left : List Text
  pub are : words ≡ word ∷ words_left
  pub values_are : values ≡ word ∷ values_left
  pub say : Say words_left values_left marks

-- one of the two
pub say-either : (words values : List Text) (marks : Option Text) → Say words values marks → SayFirst words values marks ⊎ SayLater words values marks
say-either words values marks h = by h.before h.are h.values_are
  where
    by : (before : List Text) → words ≡ before ++ (h.option ++ h.after) → before ++ h.after ≡ values → SayFirst words values marks ⊎ SayLater words values marks
    by [] are same = inl (record { option = h.option; are = are ∙ ap (λ (vs : List Text). h.option ++ vs) same; say = h.say })
    by (word ∷ before) are same =
        inr (record { word = word; words_left = before ++ (h.option ++ h.after); values_left = before ++ h.after; are = are; values_are = sym same; say = record { before = before; option = h.option; after = h.after; are = refl; values_are = refl; say = h.say } })

-- a limit that is said comes first in one word or in two
pub first-joined : (text : Text) (values : List Text) → SayFirst ((codes "--marks=" ++ text) ∷ values) values (Some text)
first-joined text values = record { option = (codes "--marks=" ++ text) ∷ []; are = refl; say = inr refl }

pub first-apart : (text : Text) (values : List Text) → SayFirst (codes "--marks" ∷ text ∷ values) values (Some text)
first-apart text values = record { option = codes "--marks" ∷ text ∷ []; are = refl; say = inl refl }

pub first-either : (words values : List Text) (text : Text) → SayFirst words values (Some text)
    → (words ≡ (codes "--marks=" ++ text) ∷ values) ⊎ (words ≡ codes "--marks" ∷ text ∷ values)
first-either words values text h = elim h.say [
  | inl apart ↦ inr (h.are ∙ ap (λ (o : List Text). o ++ values) apart)
  | inr joined ↦ inl (h.are ∙ ap (λ (o : List Text). o ++ values) joined)
]

-- none is said
pub first-none : (words values : List Text) → words ≡ values → SayFirst words values None
first-none words values e = record { option = []; are = e; say = refl }

pub none-first : (words values : List Text) → SayFirst words values None → words ≡ values
none-first words values h = h.are ∙ ap (λ (o : List Text). o ++ values) h.say

tail_of : (x y : Text) (xs ys : List Text) → x ∷ xs ≡ y ∷ ys → xs ≡ ys
tail_of x y xs ys e = cc

head_of : (x y : Text) (xs ys : List Text) → x ∷ xs ≡ y ∷ ys → x ≡ y
head_of x y xs ys e = cc

-- both begin, and the limit does not come first
module _ (words values ws vs : List Text) (word value : Text) (marks : Option Text) (are : words ≡ word ∷ ws) (values_are : values ≡ value ∷ vs) (not_first : SayFirst words values marks → ⊥) where
  later : Say words values marks → SayLater words values marks
  later h = elim (say-either words values marks h) [ inl first ↦ absurd (not_first first) | inr rest ↦ rest ]

  -- with one text: it is said behind
  pub say-behind : word ≡ value → Say ws vs marks → Say words values marks
  say-behind same h = rw (are, values_are, same) (say-later value ws vs marks h)

  pub behind-say : Say words values marks → Say ws vs marks
  behind-say h =
      let rest = later h in
      let one : rest.words_left ≡ ws = tail_of _ _ _ _ (sym rest.are ∙ are) in
      let other : rest.values_left ≡ vs = tail_of _ _ _ _ (sym rest.values_are ∙ values_are) in
      subst (λ (vs : List Text). Say ws vs marks) other (subst (λ (ws : List Text). Say ws rest.values_left marks) one rest.say)

  -- with two: it is not said
  pub say-parted : (word ≡ value → ⊥) → Say words values marks → ⊥
  say-parted other h =
      let rest = later h in
      other (head_of _ _ _ _ (sym are ∙ rest.are) ∙ sym (head_of _ _ _ _ (sym values_are ∙ rest.values_are)))
