-- Fresh memory is well formed and holds nothing.
use Rattle.std.proofs.Common.{◌≡◌, ℕ, zero, suc, ◌+◌, ◌^◌, ◌<◌, ◌≤◌, ◌==◌, if◌then◌else◌, Bool, true, false, List, arith, refl, ap, ◌∙◌, inl, inr}
use Rattle.std.specs.Prelude.{nat_lt, None, slice_index}
use Rattle.std.proofs.lemmas.Bool.{cases_eq, cases_lt}
use Rattle.std.proofs.lemmas.Bool.Decides.{nat_tests}
use Rattle.bz_layout.specs.Addresses.{node_address}
use Rattle.bz_layout.specs.Config.{IsConfig}
use Rattle.bz_layout.specs.Fresh.{fresh_words, SaysFresh}
use Rattle.bz_layout.specs.declared.config.Config.{Config}
use Rattle.bz_layout.specs.declared.sizes.TheConstants.{FORMAT_AT, ROOT_AT, FORMAT, FIRST_ROOT, NODE_WORDS}
use Rattle.bz_layout.proofs.Laws.{fresh_words_say}
use Rattle.bz_slotted.specs.Page.{page}
use Rattle.bz_slotted.specs.Readers.{found_of}
use Rattle.bz_slotted.specs.Records.{live_block, search_to}
use Rattle.bz_slotted.specs.Rules.{node_fault}
use Rattle.bz_slotted.specs.Tests.{every}
use Rattle.bz_slotted.specs.Whole.{Whole}
use Rattle.bz_slotted.proofs.Proved.{leaf_rules_are_facts}
use Rattle.bz_word.specs.Headers.{header}
use Rattle.bz_word.specs.Statuses.{status}
use Rattle.bz_content.specs.Content.{image_of, is_super, IsWellFormed}
use Rattle.bz_content.specs.Image.{node}
use Rattle.bz_content.specs.Laws.{FreshMemoryIsEmpty, FreshMemoryReachesSlotZero}
use Rattle.bz_content.specs.Resolving.{resolve}
use Rattle.bz_content.proofs.Honesty.{no}
use Rattle.bz_content.proofs.Reached.{is}
use Rattle.bz_content.proofs.RootLeaves.{HasRootLeaf, HoldsLeaf, root-leaf}
use Rattle.bz_content.proofs.Values.{resolve-value, value-lawful}
use Rattle.bz_content.proofs.WellFormed.{well-formed}

-- the words of fresh memory
record IsFresh (c : Config) (raw : ℕ → ℕ) : Type 0 where
  pub config : IsConfig c
  pub says : (raw FORMAT_AT ≡ FORMAT) × (raw ROOT_AT ≡ FIRST_ROOT) × (raw 2 ≡ 0) × (raw 3 ≡ c.nodes) × (raw 4 ≡ c.swaps)
  pub rest : (a : ℕ) → 5 ≤ a → raw a ≡ 0

fresh-small : (c : Config) (raw : ℕ → ℕ) (a : ℕ) → IsFresh c raw → raw a < 2 ^ 61
fresh-small c raw a f = elim (cases_lt a 5) [ inl l ↦ low l | inr g ↦ omega (arith, f.rest a g) ]
  where
    low : a < 5 → raw a < 2 ^ 61
    low l = elim (cases_eq a 0) [
      | inl e ↦ omega (arith, ap raw e, f.says.0)
      | inr n0 ↦ elim (cases_eq a 1) [
        | inl e ↦ omega (arith, ap raw e, f.says.1)
        | inr n1 ↦ elim (cases_eq a 2) [
          | inl e ↦ omega (arith, ap raw e, f.says.2)
          | inr n2 ↦ elim (cases_eq a 3) [
            | inl e ↦ omega (arith, ap raw e, f.says.3, f.config.nodes_in_range.at_most)
            | inr n3 ↦ let e : a ≡ 4 = omega (arith, n0, n1, n2, n3) in omega (arith, ap raw e, f.says.4, f.config.swaps_in_range.at_most)
          ]
        ]
      ]
    ]

-- every node is zeros
zero-node : (c : Config) (raw : ℕ → ℕ) (k : ℕ) → ((i : ℕ) → raw (node_address c k + i) ≡ 0) → node c raw k ≡ (λ i. 0)
unfolding node
zero-node c raw k zeros = λ t i. at i t
  where
    same : (b : Bool) → ◌≡◌ {A = ℕ} (if b then 0 else 0) 0
    same true = refl
    same false = refl

    at : (i : ℕ) → ◌≡◌ {A = ℕ} (if nat_lt i NODE_WORDS then raw (node_address c k + i) else 0) 0
    at i = rw (zeros i) (same (nat_lt i NODE_WORDS))

zero-whole : Whole (λ i. 0) (page (λ i. 0)) None None
unfolding status header live_block
zero-whole = record {
  level = record { header = omega arith; level = refl; lowest = omega arith };
  fences = record { low = (refl, λ i l. refl); high = (refl, λ i l. refl) };
  filled = record { status = omega arith; room = omega arith; sorted = omega arith; free = λ i a b. refl; dead = refl };
  used = λ j l. absurd (omega arith);
  lengths = λ j l. absurd (omega arith);
  inside = λ j l h. absurd (omega arith);
  apart = λ i j a b n p q. absurd (omega arith);
  key = λ j l v. absurd (omega arith);
  payload = λ j l v. absurd (omega arith);
  order = λ i j a b p q. absurd (omega arith);
  range = λ j l v. absurd (omega arith);
  distinct = λ i j a b n p q. absurd (omega arith);
}

zero-found : (key : List ℕ) → found_of (λ i. 0) key ≡ None
unfolding found_of search_to status
zero-found key = refl

pub every-passes : (n : ℕ) (p : ℕ → Bool) → ((i : ℕ) → i < n → p i ≡ true) → every n p ≡ true
unfolding every
every-passes zero p each = refl
every-passes (suc n) p each = rw (each n (omega arith)) (every-passes n p (λ i l. each i (omega arith)))

fresh-super : (c : Config) (raw : ℕ → ℕ) → IsFresh c raw → is_super c raw ≡ true
unfolding is_super
fresh-super c raw f =
    let unused : every 11 (λ i. raw (5 + i) == 0) ≡ true = every-passes 11 (λ i. raw (5 + i) == 0) (λ i l. let e : raw (5 + i) ≡ 0 = f.rest (5 + i) (omega arith) in grind (arith, nat_tests)) in
    rw (f.says.0, f.says.3, f.says.4, is c.nodes, is c.swaps, unused) refl

fresh-leaf : (c : Config) (raw : ℕ → ℕ) → IsFresh c raw → HasRootLeaf c (image_of raw)
fresh-leaf c raw f = record {
  some = omega (arith, f.config.nodes_in_range.at_least);
  pointer = stays 1 ∙ f.says.1;
  status = omega (arith, stays 2, f.says.2);
  whole = (λ t. node_fault c.nodes (zeros_raw t) (zeros t) 0 None None) ∙ (leaf_rules_are_facts c.nodes (λ i. 0) (λ i. 0) None None).1 zero-whole;
}
  where
    stays : (a : ℕ) → resolve raw a ≡ raw a
    stays a = resolve-value raw a (fresh-small c raw a f)

    far : (i : ℕ) → 5 ≤ node_address c 0 + i
    far i = omega arith

    zeros_raw : node c raw 0 ≡ (λ i. 0)
    zeros_raw = zero-node c raw 0 (λ i. f.rest (node_address c 0 + i) (far i))

    zeros : node c (resolve raw) 0 ≡ (λ i. 0)
    zeros = zero-node c (resolve raw) 0 (λ i. stays (node_address c 0 + i) ∙ f.rest (node_address c 0 + i) (far i))

fresh-holds : (c : Config) (raw : ℕ → ℕ) (key : List ℕ) → IsFresh c raw → found_of (node c (resolve raw) 0) key ≡ None
fresh-holds c raw key f =
    let zeros : node c (resolve raw) 0 ≡ (λ i. 0) =
    zero-node c (resolve raw) 0 (λ i. resolve-value raw (node_address c 0 + i) (fresh-small c raw (node_address c 0 + i) f) ∙ f.rest (node_address c 0 + i) (omega arith)) in
    ap (λ n. found_of n key) zeros ∙ zero-found key

module _ (c : Config) (config : IsConfig c) where
  abbrev raw : ℕ → ℕ
  raw = slice_index (fresh_words c)

  fresh : IsFresh c raw
  fresh = let s : SaysFresh c (fresh_words c) = fresh_words_say c in record { config = config; says = (s.format, s.root, s.root_status, s.nodes, s.swaps); rest = s.rest }

  held : HoldsLeaf c (image_of raw)
  held = root-leaf c (image_of raw) (fresh-leaf c raw fresh)

  rules : IsWellFormed c raw
  rules = record {
    super = fresh-super c raw fresh;
    lawful = λ a l. value-lawful c raw a (fresh-small c raw a fresh) (λ g. fresh.rest a (omega arith));
    tree = held.tree;
  }

pub fresh-empty : FreshMemoryIsEmpty
fresh-empty c config =
    ((well-formed c (raw c config)).1 (rules c config), λ key. (held c config).content key ∙ fresh-holds c (raw c config) key (fresh c config))

pub fresh-reaches : FreshMemoryReachesSlotZero
fresh-reaches c k config l = (held c config).inside k ∙ rw (no k c.nodes (λ e. absurd (omega (arith, l, e)))) refl
