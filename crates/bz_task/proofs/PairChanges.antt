-- Changes of keys in a list, and those that a swap on two leaves makes.
use Rattle.std.proofs.Common.{◌≡◌, ◌≢◌, ℕ, if◌then◌else◌, Bool, true, false, List, [], ◌∷◌, ◌++◌, refl, sym, ap, ◌∙◌, inl, inr, Option}
use Rattle.std.specs.Prelude.{bytes_eq}
use Rattle.std.proofs.lemmas.Bool.{cases_eq}
use Rattle.std.proofs.lemmas.Slice.Eq.{bytes_eq-Decides}
use Rattle.bz_word.specs.declared.entry.Entry.{Entry}
use Rattle.bz_content.specs.Content.{content_in, leaf_in}
use Rattle.bz_content.specs.FromSlotted.Readers.{found_of}
use Rattle.bz_tree.specs.Order.{is_within}
use Rattle.bz_task.specs.Instant.{Instant, durable, form_at}
use Rattle.bz_task.specs.PairSwaps.{IsLeafChanged, IsPairSwap, IsLawfulSwap, PairSays, changed, Each, LeafSays, IsGoodForAll, PairSwapsMakeChanges}
use Rattle.bz_task.specs.Scene.{Scene, IsScene, here}
use Rattle.bz_task.specs.Swaps.{Change}
use Rattle.bz_task.proofs.LeafSwaps.{at-leaf, in-leaf}
use Rattle.bz_task.proofs.PairSwaps.{pair-swaps}

-- what is so of each change of two lists
each-append : (P : Change → Type 0) (xs ys : List Change) → Each P xs → Each P ys → Each P (xs ++ ys)
each-append P [] ys p q = q
each-append P (x ∷ xs) ys p q = (p.0, each-append P xs ys p.1 q)

each-map : (P Q : Change → Type 0) → ((x : Change) → P x → Q x) → (xs : List Change) → Each P xs → Each Q xs
each-map P Q f [] p = tt
each-map P Q f (x ∷ xs) p = (f x p.0, each-map P Q f xs p.1)

each-both : (P Q : Change → Type 0) (xs : List Change) → Each P xs → Each Q xs → Each (λ x. P x × Q x) xs
each-both P Q [] p q = tt
each-both P Q (x ∷ xs) p q = ((p.0, q.0), each-both P Q xs p.1 q.1)

-- what is said after changes
changed-append : (xs ys : List Change) (said : List ℕ → Option (List ℕ)) (key : List ℕ) → changed (xs ++ ys) said key ≡ changed xs (changed ys said) key
changed-append [] ys said key = refl
changed-append (x ∷ xs) ys said key = ap (λ z. if bytes_eq key x.key then x.new else z) (changed-append xs ys said key)

changed-alike : (xs : List Change) (f g : List ℕ → Option (List ℕ)) (key : List ℕ) → f key ≡ g key → changed xs f key ≡ changed xs g key
changed-alike [] f g key e = e
changed-alike (x ∷ xs) f g key e = ap (λ z. if bytes_eq key x.key then x.new else z) (changed-alike xs f g key e)

changed-other : (xs : List Change) (said : List ℕ → Option (List ℕ)) (key : List ℕ) → Each (λ x. x.key ≢ key) xs → changed xs said key ≡ said key
changed-other [] said key p = refl
changed-other (x ∷ xs) said key p = go (bytes_eq key x.key) refl (changed-other xs said key p.1)
  where
    go : (t : Bool) → bytes_eq key x.key ≡ t → changed xs said key ≡ said key → (if bytes_eq key x.key then x.new else changed xs said key) ≡ said key
    go true e rest = absurd (p.0 (sym ((bytes_eq-Decides key x.key).0 e)))
    go false e rest = rw e rest

-- of one leaf
module _ (s : Scene) (k : ℕ) (y : Instant) (good : IsScene s) (d : IsLeafChanged s k y) (changes : List Change) (says : LeafSays changes s k y) where
  -- keys of another leaf are none of its changes
  not-its : (key : List ℕ) → leaf_in s.past.config (here s).image key ≢ k → Each (λ x. x.key ≢ key) changes
  not-its key ne = each-map (λ x. is_within x.key ((form_at s.past.config (here s)).low k) ((form_at s.past.config (here s)).high k) ≡ true) (λ x. x.key ≢ key)
      (λ x r e. ne (ap (leaf_in s.past.config (here s).image) (sym e) ∙ in-leaf s k y good d x.key r)) changes says.range

  before : Each (λ x. content_in s.past.config (here s).image x.key ≡ x.old) changes
  before = each-map
      (λ x. (is_within x.key ((form_at s.past.config (here s)).low k) ((form_at s.past.config (here s)).high k) ≡ true) × (found_of (durable s.past.config (here s) k) x.key ≡ x.old))
      (λ x. content_in s.past.config (here s).image x.key ≡ x.old)
      (λ x p. at-leaf s k y good d x.key (in-leaf s k y good d x.key p.0) ∙ p.1) changes
      (each-both (λ x. is_within x.key ((form_at s.past.config (here s)).low k) ((form_at s.past.config (here s)).high k) ≡ true) (λ x. found_of (durable s.past.config (here s) k) x.key ≡ x.old) changes says.range says.before)

  -- what it says of its keys afterwards
  its : (key : List ℕ) → leaf_in s.past.config (here s).image key ≡ k → found_of (durable s.past.config y k) key ≡ changed changes (content_in s.past.config (here s).image) key
  its key e = says.after key ∙ changed-alike changes (found_of (durable s.past.config (here s) k)) (content_in s.past.config (here s).image) key (sym (at-leaf s k y good d key e))

-- on two leaves
module _ (entries : List Entry) (s : Scene) (k j : ℕ) (y : Instant) (first second : List Change) (good : IsScene s) (w : IsPairSwap entries s k j y) (ne : k ≢ j) (a : LeafSays first s k y) (b : LeafSays second s j y) where
  both : IsLawfulSwap entries s y × PairSays s.past.config (here s) y k j
  both = pair-swaps entries s k j y good w

  after : (key : List ℕ) → content_in s.past.config y.image key ≡ changed (first ++ second) (content_in s.past.config (here s).image) key
  after key = elim (cases_eq (leaf_in s.past.config (here s).image key) k) [
    | inl e ↦ both.1.first key e ∙ (its s k y good w.first first a key e
        ∙ (changed-alike first (content_in s.past.config (here s).image) (changed second (content_in s.past.config (here s).image)) key (sym (changed-other second (content_in s.past.config (here s).image) key (not-its s j y good w.second second b key (λ q. ne (sym e ∙ q)))))
        ∙ sym (changed-append first second (content_in s.past.config (here s).image) key)))
    | inr far ↦ elim (cases_eq (leaf_in s.past.config (here s).image key) j) [
      | inl e ↦ both.1.second key e ∙ (its s j y good w.second second b key e ∙ behind key far)
      | inr too ↦ both.1.other key far too ∙ (sym (changed-other second (content_in s.past.config (here s).image) key (not-its s j y good w.second second b key too)) ∙ behind key far)
    ]
  ]
    where
      behind : (key : List ℕ) → leaf_in s.past.config (here s).image key ≢ k → changed second (content_in s.past.config (here s).image) key ≡ changed (first ++ second) (content_in s.past.config (here s).image) key
      behind key far = sym (changed-append first second (content_in s.past.config (here s).image) key ∙ changed-other first (changed second (content_in s.past.config (here s).image)) key (not-its s k y good w.first first a key far))

  two-leaves : IsGoodForAll (first ++ second) entries s y
  two-leaves = record {
    lawful = both.0;
    content = record {
      before = each-append (λ x. content_in s.past.config (here s).image x.key ≡ x.old) first second (before s k y good w.first first a) (before s j y good w.second second b);
      after = after;
    };
  }

one-leaf : (entries : List Entry) (s : Scene) (k : ℕ) (y : Instant) (changes : List Change) → IsScene s → IsPairSwap entries s k k y → LeafSays changes s k y → IsGoodForAll changes entries s y
one-leaf entries s k y changes good w a = record {
  lawful = both.0;
  content = record {
    before = before s k y good w.first changes a;
    after = λ key. elim (cases_eq (leaf_in s.past.config (here s).image key) k) [
      | inl e ↦ both.1.first key e ∙ its s k y good w.first changes a key e
      | inr far ↦ both.1.other key far far ∙ sym (changed-other changes (content_in s.past.config (here s).image) key (not-its s k y good w.first changes a key far))
    ];
  };
}
  where
    both : IsLawfulSwap entries s y × PairSays s.past.config (here s) y k k
    both = pair-swaps entries s k k y good w

apart : (s : Scene) (k j : ℕ) (y : Instant) (first second : List Change) → IsScene s → IsLeafChanged s k y → IsLeafChanged s j y → k ≢ j → LeafSays first s k y → LeafSays second s j y → Each (λ change. Each (λ other. change.key ≢ other.key) second) first
apart s k j y first second good d f ne a b = each-map (λ x. is_within x.key ((form_at s.past.config (here s)).low k) ((form_at s.past.config (here s)).high k) ≡ true) (λ x. Each (λ other. x.key ≢ other.key) second)
    (λ x r. each-map (λ z. z.key ≢ x.key) (λ z. x.key ≢ z.key) (λ z n e. n (sym e)) second (not-its s j y good f second b x.key (λ q. ne (sym (in-leaf s k y good d x.key r) ∙ q)))) first a.range

pub pair-changes : PairSwapsMakeChanges
pair-changes = record {
  two = λ entries s k j y first second good w ne a b. two-leaves entries s k j y first second good w ne a b;
  apart = λ s k j y first second good d f ne a b. apart s k j y first second good d f ne a b;
  one = λ entries s k y changes good w a. one-leaf entries s k y changes good w a;
}
