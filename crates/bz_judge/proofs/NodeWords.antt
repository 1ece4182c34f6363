-- The words of a node as they were read, and as the view of an image sees them.
use Rattle.std.proofs.Common.{◌≡◌, ◌≢◌, ℕ, suc, ◌+◌, ◌-◌, ◌/◌, ◌%◌, ◌^◌, ◌<◌, ◌≤◌, if◌then◌else◌, Bool, true, false, List, [], ◌∷◌, ◌++◌, length, get_or, drop, arith, refl, sym, ap, ◌∙◌, inl, inr, Option, get_or-set_same, get_or-set_other}
use Rattle.std.specs.Prelude.{nat_lt, slice_index, slice_range}
use Rattle.std.proofs.lemmas.Bool.{cases_eq, cases_lt}
use Rattle.std.proofs.lemmas.Bool.Decides.{nat_tests}
use Rattle.std.proofs.Math.ListN.{set}
use Rattle.std.proofs.lemmas.List.{get_or-take, get_or-drop, get_or_past, length-append, length-take, length-drop}
use Rattle.bz_tree.specs.declared.rule.ShapeRule.{ShapeRule}
use Rattle.bz_content.specs.Content.{view_in}
use Rattle.bz_content.specs.Image.{node}
use Rattle.bz_content.specs.Resolving.{resolve}
use Rattle.bz_content.proofs.Honesty.{no}
use Rattle.bz_layout.specs.Addresses.{words_of, node_address}
use Rattle.bz_layout.specs.declared.config.Config.{Config}
use Rattle.bz_layout.specs.declared.sizes.TheConstants.{NODE_WORDS, HEADER_AT}
use Rattle.bz_layout.proofs.Laws.{addresses_fit}
use Rattle.bz_slotted.specs.Page.{visible, extent_of, meta_of}
use Rattle.bz_slotted.specs.ReadingLaws.{node_of}
use Rattle.bz_slotted.specs.Readers.{level_of}
use Rattle.bz_slotted.specs.Records.{key_in, payload_in, records_to}
use Rattle.bz_slotted.specs.Rules.{node_fault}
use Rattle.bz_slotted.proofs.Unpacking.{meta-none}
use Rattle.bz_word.specs.Headers.{header}
use Rattle.bz_word.specs.Metas.{IsMetaWord}
use Rattle.bz_word.specs.declared.meta.Meta.{Meta}
use Rattle.bz_judge.specs.Inside.Nodes.{IsScanned}

pub node-inside : (c : Config) (raw : ℕ → ℕ) (k i : ℕ) → i < NODE_WORDS → node c raw k i ≡ raw (node_address c k + i)
unfolding node
node-inside c raw k i less = let t : nat_lt i NODE_WORDS ≡ true = grind (arith, nat_tests) in rw t refl

node-past : (c : Config) (raw : ℕ → ℕ) (k i : ℕ) → NODE_WORDS ≤ i → node c raw k i ≡ 0
unfolding node
node-past c raw k i past = let t : nat_lt i NODE_WORDS ≡ false = grind (arith, nat_tests) in rw t refl

-- a list of a node's words, each as it should be
pub all-read : (c : Config) (raw : ℕ → ℕ) (k : ℕ) (words : List ℕ) → length words ≡ NODE_WORDS → ((i : ℕ) → i < NODE_WORDS → get_or words i 0 ≡ node c raw k i) → node_of words ≡ node c raw k
all-read c raw k words size each = λ t i. at i t
  where
    at : (i : ℕ) → get_or words i 0 ≡ node c raw k i
    at i = elim (cases_lt i NODE_WORDS) [
      | inl l ↦ each i l
      | inr g ↦ get_or_past words i 0 (omega arith) ∙ sym (node-past c raw k i g)
    ]

-- the words of a slot as they stand
pub raw-part : (c : Config) (image : List ℕ) (k start : ℕ) → IsScanned c image → k < c.nodes → start ≡ node_address c k →
    node_of (slice_range image start (start + NODE_WORDS)) ≡ node c (slice_index image) k
raw-part c image k start s slot is = all-read c (slice_index image) k (slice_range image start (start + NODE_WORDS)) size each
  where
    each : (i : ℕ) → i < NODE_WORDS → get_or (slice_range image start (start + NODE_WORDS)) i 0 ≡ node c (slice_index image) k i
    each i l =
        get_or-take (start + NODE_WORDS - start) (drop start image) i 0 (omega arith)
        ∙ (get_or-drop start image i 0 ∙ (ap (λ a. get_or image (a + i) 0) is ∙ sym (node-inside c (slice_index image) k i l)))

    size : length (slice_range image start (start + NODE_WORDS)) ≡ NODE_WORDS
    size =
        let last : node_address c k + (NODE_WORDS - 1) < words_of c = (addresses_fit c s.config).node_words k (NODE_WORDS - 1) slot (omega arith) in
        omega (arith, length-take (start + NODE_WORDS - start) (drop start image), length-drop start image, s.size)

-- what the view says of a slot that is one of a node
pub fault-of-node : (c : Config) (raw : ℕ → ℕ) (k l : ℕ) (low high : Option (List ℕ)) → k < c.nodes →
    (view_in c raw).fault k l low high ≡ node_fault c.nodes (node c raw k) (node c (resolve raw) k) l low high
fault-of-node c raw k l low high less = let ne : k ≢ c.nodes = omega arith in rw (no k c.nodes ne) refl

pub fault-read : (c : Config) (raw : ℕ → ℕ) (k l : ℕ) (low high : Option (List ℕ)) (before after : ℕ → ℕ) (found : Option ShapeRule) → k < c.nodes →
    before ≡ node c raw k → after ≡ node c (resolve raw) k → found ≡ node_fault c.nodes before after l low high → found ≡ (view_in c raw).fault k l low high
fault-read c raw k l low high before after found less b a f =
    f ∙ ((λ t. node_fault c.nodes (b t) (a t) l low high) ∙ sym (fault-of-node c raw k l low high less))

pub level-read : (c : Config) (raw : ℕ → ℕ) (k x : ℕ) → x ≡ node c raw k HEADER_AT → x % 2 ^ 8 ≡ level_of (node c raw k)
unfolding level_of header
level-read c raw k x e = ap (λ n. n % 2 ^ 8) (e ∙ whole (node c raw k HEADER_AT))
  where
    whole : (n : ℕ) → n ≡ n / 1
    whole n = omega arith

-- one visible record more
pub shown-more : (n : ℕ → ℕ) (meta : ℕ → Meta) (k : ℕ) → length (records_to n meta (k + 1)) ≡ length (records_to n meta k) + (if visible (meta k) then 1 else 0)
unfolding records_to
shown-more n meta k = ap (λ j. length (records_to n meta j)) (one k) ∙ go (visible (meta k))
  where
    one : (m : ℕ) → m + 1 ≡ suc m
    one m = omega arith

    go : (b : Bool) → length (records_to n meta k ++ (if b then (key_in n (extent_of (meta k)), payload_in n (extent_of (meta k))) ∷ [] else [])) ≡ length (records_to n meta k) + (if b then 1 else 0)
    go true = length-append (records_to n meta k) ((key_in n (extent_of (meta k)), payload_in n (extent_of (meta k))) ∷ [])
    go false = length-append (records_to n meta k) []

pub shown-none : (n : ℕ → ℕ) (meta : ℕ → Meta) → length (records_to n meta 0) ≡ 0
unfolding records_to
shown-none n meta = refl

pub unread-hidden : (x : ℕ) → (IsMetaWord x → ⊥) → false ≡ visible (meta_of x)
unfolding visible
unread-hidden x h = ap visible (meta-none x h)

-- one word more is read
pub read-more : (words : List ℕ) (i v : ℕ) (f : ℕ → ℕ) → i < length words → ((j : ℕ) → j < i → get_or words j 0 ≡ f j) → v ≡ f i → (j : ℕ) → j < i + 1 → get_or (set words i v) j 0 ≡ f j
read-more words i v f less below here j l = elim (cases_eq j i) [
  | inl e ↦ ap (λ k. get_or (set words i v) k 0) e ∙ (get_or-set_same words i v 0 less ∙ (here ∙ ap f (sym e)))
  | inr ne ↦ get_or-set_other words i j v 0 ne ∙ below j (omega (arith, ne))
]
