-- The words that were read of a leaf are those of one moment.
use Rattle.std.proofs.Common.{◌≡◌, ℕ, ◌<◌, ◌≤◌, ◌^◌, true, List, slice_index, arith, sym, subst, ◌∙◌, inl, inr, Option}
use Rattle.std.proofs.lemmas.Bool.{cases_lt, cases_eq}
use Rattle.std.proofs.lemmas.List.{get_or_past}
use Rattle.bz_layout.specs.declared.sizes.TheConstants.{NODE_WORDS, STATUS_AT, HEADER_AT}
use Rattle.bz_slotted.specs.Laws.{LeafRulesAreFacts}
use Rattle.bz_slotted.specs.Page.{page}
use Rattle.bz_slotted.specs.ReadingLaws.{node_of}
use Rattle.bz_slotted.specs.Rules.{node_fault}
use Rattle.bz_slotted.specs.Whole.{Whole}
use Rattle.bz_content.specs.Image.{node}
use Rattle.bz_task.specs.Good.{IsGood}
use Rattle.bz_task.specs.Instant.{words, durable, form_at}
use Rattle.bz_task.specs.Laws.{NodesStay, IsLeafInTree, SaysAlike, SameRecordsShowTheSame, SeenLeavesAreWhole, LeavesAreInTrees}
use Rattle.bz_task.specs.Scene.{Scene, IsScene, here}
use Rattle.bz_task.specs.Shown.{SameWords, SameShownNode, IsShown}
use Rattle.bz_renew.proofs.FrozenLeaves.{same-records, read-alike}
use Rattle.bz_renew.proofs.Words.{node-past}
use Rattle.bz_merge.specs.Siblings.{WasWord, WasReadOrFree, WereRead, StoodBetween, SeenLeaf, WasSeen, LeavesReadWere}
use Rattle.bz_gaps.proofs.FreeWords.{free-zero, free-alike, header-used}

-- the laws on which it rests
pub record Laws : Type 0 where
  pub nodes : NodesStay
  pub rules : LeafRulesAreFacts
  pub shown : SameRecordsShowTheSame
  pub seen : SeenLeavesAreWhole
  pub leaves : LeavesAreInTrees

module _ (b : Laws) (s : Scene) (l : SeenLeaf) (n m : ℕ) (low high : Option (List ℕ)) (good : IsScene s) (since : s.past.since ≤ n) (order : n ≤ m) (reached : (s.past.at n).reached l.slot ≡ true) (was : words s.past.config (s.past.at n) l.slot STATUS_AT ≡ l.status) (plain : l.status < 2 ^ 61)
    (were : WereRead l.slot n l.status NODE_WORDS l.image s.past) (stood : StoodBetween l.slot m low high s.past) (now : words s.past.config (here s) l.slot STATUS_AT ≡ l.status) where
  -- nothing of it changed meanwhile
  same-at : (j : ℕ) → n ≤ j → j ≤ s.past.now → SameShownNode s.past.config (s.past.at n) (s.past.at j) l.slot
  same-at j a d = b.nodes s.past.config s.past.at s.past.since s.past.now n j s.past.now l.slot good.history (record { since = since; order = omega (arith, a, d); until = omega arith }) a d reached (now ∙ sym was)

  -- so at the moment at which it stood
  between : SameShownNode s.past.config (s.past.at n) (s.past.at m) l.slot
  between = same-at m order stood.now

  good-then : IsGood s.past.config (s.past.at m)
  good-then = good.history.good m stood.since stood.now

  leaf : IsLeafInTree s.past.config (s.past.at m) l.slot
  leaf = b.leaves s.past.config (s.past.at m) l.slot good-then stood.slot stood.inside stood.leaf

  facts : Whole (node s.past.config (s.past.at m).image l.slot) (page (durable s.past.config (s.past.at m) l.slot)) ((form_at s.past.config (s.past.at m)).low l.slot) ((form_at s.past.config (s.past.at m)).high l.slot)
  facts = (b.rules s.past.config.nodes (node s.past.config (s.past.at m).image l.slot) (durable s.past.config (s.past.at m) l.slot) _ _).0 leaf.whole

  -- what is shown of it then stands durable at that moment
  durable-then : (j : ℕ) → IsShown (words s.past.config (s.past.at n) l.slot) j → durable s.past.config (s.past.at m) l.slot j ≡ words s.past.config (s.past.at n) l.slot j
  durable-then j h =
      let shown : IsShown (words s.past.config (s.past.at m) l.slot) j = (b.shown (words s.past.config (s.past.at n) l.slot) (words s.past.config (s.past.at m) l.slot) (same-records _ _ between) j).0 h in
      good-then.shown l.slot j leaf.reached shown ∙ between j h

  -- each word that was read is that of the moment of the status
  read-was : (j : ℕ) → IsShown (words s.past.config (s.past.at n) l.slot) j → WasWord l.slot j (slice_index l.image j) n s.past → words s.past.config (s.past.at n) l.slot j ≡ slice_index l.image j
  read-was j h r = sym (same-at r.moment r.order r.now j h) ∙ r.word

  header-was : WasReadOrFree l.slot HEADER_AT n l.image s.past → words s.past.config (s.past.at n) l.slot HEADER_AT ≡ slice_index l.image HEADER_AT
  header-was (inl r) = read-was HEADER_AT (inl (omega arith)) r
  header-was (inr f) = absurd (header-used (node_of l.image) f.0)

  -- and a free one is 0 in both
  rest-was : (j : ℕ) → IsShown (words s.past.config (s.past.at n) l.slot) j → WasReadOrFree l.slot j n l.image s.past → words s.past.config (s.past.at n) l.slot j ≡ slice_index l.image j
  rest-was j h (inl r) = read-was j h r
  rest-was j h (inr f) =
      let status : durable s.past.config (s.past.at m) l.slot STATUS_AT ≡ slice_index l.image STATUS_AT = durable-then STATUS_AT (inl (omega arith)) ∙ (was ∙ sym were.first) in
      let header : durable s.past.config (s.past.at m) l.slot HEADER_AT ≡ slice_index l.image HEADER_AT = durable-then HEADER_AT (inl (omega arith)) ∙ header-was (were.rest HEADER_AT (omega arith) (omega arith)) in
      let zero : durable s.past.config (s.past.at m) l.slot j ≡ 0 = free-zero (durable s.past.config (s.past.at m) l.slot) _ _ j facts.filled facts.fences (free-alike (node_of l.image) (durable s.past.config (s.past.at m) l.slot) j status header f.0) in
      sym (durable-then j h) ∙ (zero ∙ sym f.1)

  word-was : (j : ℕ) → j < NODE_WORDS → IsShown (words s.past.config (s.past.at n) l.slot) j → slice_index l.image j ≡ words s.past.config (s.past.at n) l.slot j
  word-was j k h = elim (cases_eq j 0) [
    | inl e ↦ subst (λ z. slice_index l.image z ≡ words s.past.config (s.past.at n) l.slot z) (sym e) (were.first ∙ sym was)
    | inr ne ↦ sym (rest-was j h (were.rest j (omega (arith, ne)) k))
  ]

  read-then : SameWords (words s.past.config (s.past.at n) l.slot) (node_of l.image)
  read-then j h = elim (cases_lt j NODE_WORDS) [
    | inl k ↦ word-was j k h
    | inr k ↦ get_or_past l.image j 0 (omega (arith, k, were.size)) ∙ sym (node-past s.past.config (s.past.at n).value l.slot j k)
  ]

  read : SameWords (words s.past.config (s.past.at m) l.slot) (node_of l.image)
  read j h =
      let first : IsShown (words s.past.config (s.past.at n) l.slot) j = (b.shown (words s.past.config (s.past.at n) l.slot) (words s.past.config (s.past.at m) l.slot) (same-records _ _ between) j).1 h in
      read-then j first ∙ sym (between j first)

  alike : SaysAlike s.past.config.nodes (durable s.past.config (s.past.at m) l.slot) (words s.past.config (s.past.at m) l.slot) ((form_at s.past.config (s.past.at m)).low l.slot) ((form_at s.past.config (s.past.at m)).high l.slot)
  alike = read-alike b.shown b.seen s.past.config (s.past.at m) l.slot good-then leaf

  says : SaysAlike s.past.config.nodes (words s.past.config (s.past.at m) l.slot) (node_of l.image) ((form_at s.past.config (s.past.at m)).low l.slot) ((form_at s.past.config (s.past.at m)).high l.slot)
  says = b.seen s.past.config.nodes _ (words s.past.config (s.past.at m) l.slot) (node_of l.image) _ _ alike.whole read

  pub was-seen : WasSeen l m low high s.past
  was-seen = record {
    stood = stood;
    status = between STATUS_AT (inl (omega arith)) ∙ was;
    plain = plain;
    whole = (λ t. node_fault s.past.config.nodes (node_of l.image) (node_of l.image) 0 (sym stood.low_is t) (sym stood.high_is t)) ∙ says.whole;
    says = λ key. sym (says.found key);
    size = were.size;
  }

pub leaves-read : Laws → LeavesReadWere
leaves-read b s l n m low high good since order reached was plain were stood now = was-seen b s l n m low high good since order reached was plain were stood now
