-- The content of an image as a map.
use Rattle.std.proofs.Common.{◌≡◌, ◌≢◌, ℕ, ◌≤◌, true, false, List, length, map, arith, refl, sym, ap, subst, ◌∙◌, inl, inr, Option}
use Rattle.std.specs.Prelude.{nat_lt, None, slice_index}
use Rattle.std.specs.Cmp.Lexicographic.{slice_cmp}
use Rattle.std.specs.FinMap.{find}
use Rattle.std.specs.List.{range_with_len}
use Rattle.std.specs.Ordering.{nat_cmp}
use Rattle.std.proofs.Math.ListN.{get_or-eq_default}
use Rattle.std.proofs.lemmas.Bool.{cases_lt}
use Rattle.std.proofs.lemmas.Bool.Decides.{nat_tests}
use Rattle.std.proofs.lemmas.List.FromFn.{get_or-map-range_with_len, length-map-range_with_len}
use Rattle.bz_layout.specs.declared.config.Config.{Config}
use Rattle.bz_layout.specs.declared.sizes.TheConstants.{NODE_WORDS}
use Rattle.bz_tree.specs.Form.{Fits}
use Rattle.bz_tree.proofs.Proved.{map_is_the_content}
use Rattle.bz_slotted.specs.Page.{page}
use Rattle.bz_slotted.specs.Readers.{found_of}
use Rattle.bz_slotted.specs.ReadingLaws.{node_of, ReadsAsPairs}
use Rattle.bz_slotted.specs.Records.{records}
use Rattle.bz_slotted.specs.Rules.{node_fault}
use Rattle.bz_slotted.proofs.Proved.{whole_leaves_are_readable}
use Rattle.bz_content.specs.Image.{Image, node}
use Rattle.bz_content.specs.Laws.{MapIsTheContent}
use Rattle.bz_content.specs.Map.{records_in}
use Rattle.bz_content.specs.Swaps.{form_in}
use Rattle.bz_content.specs.View.{view_of}
use Rattle.bz_content.proofs.Honesty.{no}
use Rattle.bz_content.proofs.Reached.{fits}

-- the words of a slot as a list
abbrev listed : (ℕ → ℕ) → List ℕ
listed n = map n (range_with_len 0 NODE_WORDS)

past : (c : Config) (words : ℕ → ℕ) (k i : ℕ) → NODE_WORDS ≤ i → node c words k i ≡ 0
unfolding node
past c words k i g = let t : nat_lt i NODE_WORDS ≡ false = grind (arith, nat_tests) in rw t refl

listed-same : (c : Config) (words : ℕ → ℕ) (k : ℕ) → node_of (listed (node c words k)) ≡ node c words k
listed-same c words k = λ t i. at i t
  where
    at : (i : ℕ) → slice_index (listed (node c words k)) i ≡ node c words k i
    at i = elim (cases_lt i NODE_WORDS) [
      | inl l ↦ get_or-map-range_with_len (node c words k) 0 NODE_WORDS i i 0 l (omega arith)
      | inr g ↦
          let ends : length (listed (node c words k)) ≤ i = omega (arith, length-map-range_with_len (node c words k) 0 NODE_WORDS) in
          get_or-eq_default (listed (node c words k)) 0 ends ∙ sym (past c words k i g)
    ]

-- the records of a leaf that breaks no rule say of a key what the leaf says
records-say : (c : Config) (x : Image) (k : ℕ) (lo hi : Option (List ℕ)) (key : List ℕ) → node_fault c.nodes (node c x.raw k) (node c x.words k) 0 lo hi ≡ None
    → find (slice_cmp nat_cmp) key (records_in c x k) ≡ found_of (node c x.words k) key
records-say c x k lo hi key e =
    let same : node_of (listed (node c x.words k)) ≡ node c x.words k = listed-same c x.words k in
    let r : ReadsAsPairs (listed (node c x.words k)) =
    whole_leaves_are_readable c.nodes (node c x.raw k) (listed (node c x.words k)) lo hi (length-map-range_with_len (node c x.words k) 0 NODE_WORDS)
    (subst (λ n. node_fault c.nodes (node c x.raw k) n 0 lo hi ≡ None) (sym same) e) in
    ap (λ n. find (slice_cmp nat_cmp) key (records (page n))) (sym same) ∙ ap (λ pairs. find (slice_cmp nat_cmp) key pairs) (sym r.pairs) ∙ r.says key ∙ ap (λ n. found_of n key) same

pub map-is-content : MapIsTheContent
map-is-content c x t key = map_is_the_content (view_of c x) (records_in c x) key t says
  where
    g : Fits (view_of c x) (form_in c x)
    g = fits c x t

    says : (k : ℕ) → (form_in c x).inside k ≡ true → (form_in c x).level k ≡ 0 → find (slice_cmp nat_cmp) key (records_in c x k) ≡ (view_of c x).found k key
    says k i l =
        let below : k ≢ c.nodes = (λ e. absurd (omega (arith, g.tall, g.height, l, ap (form_in c x).level e))) in
        let none : node_fault c.nodes (node c x.raw k) (node c x.words k) ((form_in c x).level k) ((form_in c x).low k) ((form_in c x).high k) ≡ None =
        rw (no k c.nodes below) at (g.whole k i below) in
        rw (no k c.nodes below) (records-say c x k _ _ key (rw l at none))
