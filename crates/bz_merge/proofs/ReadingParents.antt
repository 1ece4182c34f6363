-- The words that were read of a parent are those of one moment, and its children stand in the tree as they tell.
use Rattle.std.proofs.Common.{◌≡◌, ◌≢◌, ℕ, ◌<◌, ◌≤◌, ◌==◌, true, false, List, slice_index, arith, refl, sym, ap, subst, ◌∙◌, inl, inr}
use Rattle.std.specs.Prelude.{None}
use Rattle.std.proofs.lemmas.Bool.{cases_lt, cases_eq}
use Rattle.std.proofs.lemmas.List.{get_or_past}
use Rattle.bz_layout.specs.declared.config.Config.{Config}
use Rattle.bz_layout.specs.declared.limits.TheConstants.{MAX_NODES}
use Rattle.bz_layout.specs.declared.sizes.TheConstants.{NODE_WORDS, STATUS_AT, HEADER_AT}
use Rattle.bz_tree.specs.Form.{Fits, Stands, Hangs}
use Rattle.bz_slotted.specs.Laws.{InnerRulesAreFacts}
use Rattle.bz_slotted.specs.Page.{page}
use Rattle.bz_slotted.specs.Readers.{count_of, child_of}
use Rattle.bz_slotted.specs.ReadingLaws.{node_of, WholeInnersAreReadable}
use Rattle.bz_slotted.specs.Rules.{node_fault}
use Rattle.bz_slotted.specs.Whole.{WholeInner}
use Rattle.bz_content.specs.Content.{view_in, IsWellFormed}
use Rattle.bz_content.specs.Image.{node}
use Rattle.bz_content.specs.Restructures.{children_of}
use Rattle.bz_task.specs.Good.{IsGood}
use Rattle.bz_task.specs.Instant.{Instant, words, durable, page_at, form_at}
use Rattle.bz_task.specs.Laws.{NodesStay}
use Rattle.bz_task.specs.Scene.{Scene, IsScene, here}
use Rattle.bz_task.specs.Shown.{SameShownNode}
use Rattle.bz_task.specs.declared.path.Link.{Link}
use Rattle.bz_renew.proofs.Words.{node-at, node-past}
use Rattle.bz_split.specs.BelowSplits.{AreLinksDown}
use Rattle.bz_merge.specs.Merges.{low_in, high_in, WasLeafOnce}
use Rattle.bz_merge.specs.Siblings.{WasWord, WasReadOrFree, WereRead, WasParentNode, IsChildAt, ParentsReadWere, ChildrenStand}
use Rattle.bz_gaps.proofs.FreeWords.{free-zero, free-alike, header-used}
use Rattle.bz_merge.proofs.Standing.{Laws as Standing, not-equal, guard-is, leads, then-reached, then-inner, then-status, then-inside, below, same-place, level-one, fits, view-child, view-count, stands-at, slot-of, flat, low-is, high-is}

-- the laws on which it rests
pub record Laws : Type 0 where
  pub below : Standing
  pub nodes : NodesStay
  pub rules : InnerRulesAreFacts
  pub readable : WholeInnersAreReadable

module _ (b : Laws) (s : Scene) (upper lower : Link) (read : List ℕ) (good : IsScene s) (links : AreLinksDown upper lower s.past) (leaf : WasLeafOnce lower.slot s.past) (now : (here s).value lower.guard ≡ lower.status) (were : WereRead upper.slot links.guard.guarded lower.status NODE_WORDS read s.past) where
  abbrev p : ℕ
  p = upper.slot

  abbrev g : ℕ
  g = links.guard.guarded

  abbrev i : ℕ
  i = links.under.child.child

  abbrev c : Config
  c = s.past.config

  abbrev was : Instant
  was = s.past.at links.guard.guarded

  was-good : IsGood c was
  was-good = good.history.good g links.guard.since (omega (arith, links.guard.order, links.guard.now))

  reached : was.reached p ≡ true
  reached = then-reached b.below s upper lower good links leaf now

  inner : 0 < (page_at c was p).level
  inner = then-inner b.below s upper lower good links leaf now

  status-was : words c was p STATUS_AT ≡ lower.status
  status-was = then-status b.below s upper lower good links leaf now

  status-now : words c (here s) p STATUS_AT ≡ lower.status
  status-now = node-at c (here s).value p STATUS_AT (omega arith) ∙ (ap (here s).value (sym (guard-is b.below s upper lower good links leaf now)) ∙ now)

  p-below : p ≢ c.nodes
  p-below = below b.below s upper lower good links leaf now

  was-fits : Fits (view_in c was.image) (form_at c was)
  was-fits = let w : IsWellFormed c was.image = (b.below.formed c was.image).0 was-good.form in b.below.forms (view_in c was.image) w.tree.one w.tree.tall w.tree.none

  level-was : (form_at c was).level p ≡ 1
  level-was = omega (arith, (same-place b.below s upper lower good links leaf now).level, level-one b.below s upper lower good links leaf now)

  whole-was : node_fault c.nodes (node c was.image p) (durable c was p) ((form_at c was).level p) ((form_at c was).low p) ((form_at c was).high p) ≡ None
  whole-was = rw (not-equal p c.nodes p-below) at (was-fits.whole p (then-inside b.below s upper lower good links leaf now) p-below)

  facts : WholeInner c.nodes (node c was.image p) (page (durable c was p)) ((form_at c was).level p) ((form_at c was).low p) ((form_at c was).high p)
  facts = (b.rules c.nodes (node c was.image p) (durable c was p) ((form_at c was).level p) ((form_at c was).low p) ((form_at c was).high p) (omega (arith, level-was))).0 whole-was

  shown-was : (j : ℕ) → durable c was p j ≡ words c was p j
  shown-was j = was-good.shown p j reached (inr (inr (inl inner)))

  -- each word that was read is that of the moment of the status
  read-was : (j : ℕ) → WasWord p j (slice_index read j) g s.past → words c was p j ≡ slice_index read j
  read-was j r =
      let same : SameShownNode c was (s.past.at r.moment) p = b.nodes c s.past.at s.past.since s.past.now g r.moment s.past.now p good.history
      (record { since = links.guard.since; order = omega (arith, links.guard.order, links.guard.now); until = omega arith }) r.order r.now reached (status-now ∙ sym status-was) in
      sym (same j (inr (inr (inl inner)))) ∙ r.word

  header-was : WasReadOrFree p HEADER_AT g read s.past → words c was p HEADER_AT ≡ slice_index read HEADER_AT
  header-was (inl r) = read-was HEADER_AT r
  header-was (inr f) = absurd (header-used (node_of read) f.0)

  -- and a free one is 0 in both
  rest-was : (j : ℕ) → WasReadOrFree p j g read s.past → words c was p j ≡ slice_index read j
  rest-was j (inl r) = read-was j r
  rest-was j (inr f) =
      let status : durable c was p STATUS_AT ≡ slice_index read STATUS_AT = shown-was STATUS_AT ∙ (status-was ∙ sym were.first) in
      let header : durable c was p HEADER_AT ≡ slice_index read HEADER_AT = shown-was HEADER_AT ∙ header-was (were.rest HEADER_AT (omega arith) (omega arith)) in
      let zero : durable c was p j ≡ 0 = free-zero (durable c was p) ((form_at c was).low p) ((form_at c was).high p) j facts.filled facts.fences (free-alike (node_of read) (durable c was p) j status header f.0) in
      sym (shown-was j) ∙ (zero ∙ sym f.1)

  word-was : (j : ℕ) → j < NODE_WORDS → words c was p j ≡ slice_index read j
  word-was j l = elim (cases_eq j 0) [
    | inl e ↦ subst (λ z. words c was p z ≡ slice_index read z) (sym e) (status-was ∙ sym were.first)
    | inr ne ↦ rest-was j (were.rest j (omega (arith, ne)) l)
  ]

  words-were : words c was p ≡ node_of read
  words-were = λ t j. each j t
    where
      each : (j : ℕ) → words c was p j ≡ node_of read j
      each j = elim (cases_lt j NODE_WORDS) [
        | inl l ↦ word-was j l
        | inr l ↦ node-past c was.value p j l ∙ sym (get_or_past read j 0 (omega (arith, l, were.size)))
      ]

  alike : durable c was p ≡ node_of read
  alike = (λ t k. shown-was k t) ∙ words-were

  whole : node_fault c.nodes (node c was.image p) (node_of read) ((form_at c was).level p) ((form_at c was).low p) ((form_at c was).high p) ≡ None
  whole = subst (λ n. node_fault c.nodes (node c was.image p) n ((form_at c was).level p) ((form_at c was).low p) ((form_at c was).high p) ≡ None) alike whole-was

  few : c.nodes ≤ MAX_NODES
  few = good.config.nodes_in_range.at_most

  child-reached : (j : ℕ) → j < count_of (node_of read) → was.reached (child_of (node_of read) j) ≡ true
  child-reached j l =
      let t : (p == c.nodes) ≡ false = not-equal p c.nodes p-below in
      let counted : (view_in c was.image).count p ≡ count_of (node_of read) = rw t (ap count_of alike) in
      let is : (view_in c was.image).child p j ≡ child_of (node_of read) j = rw t (ap (λ n. child_of n j) alike) in
      let st : Stands (view_in c was.image) (form_at c was) p j ((view_in c was.image).child p j) = was-fits.down p j (then-inside b.below s upper lower good links leaf now) (omega (arith, level-was)) (subst (λ w. j < w) (sym counted) l) in
      let low : (view_in c was.image).child p j ≢ c.nodes = λ e. absurd (omega (arith, st.level, level-was, ap (form_at c was).level e, was-fits.height, was-fits.tall)) in
      subst (λ k. was.reached k ≡ true) is (was-good.inside ((view_in c was.image).child p j) st.inside low)

  parent : WasParentNode p g read s.past
  parent = record {
    raw = node c was.image p;
    level = (form_at c was).level p;
    low = (form_at c was).low p;
    high = (form_at c was).high p;
    few = few;
    size = were.size;
    inner = omega (arith, level-was);
    none = whole;
    reads = b.readable c.nodes (node c was.image p) read ((form_at c was).level p) ((form_at c was).low p) ((form_at c was).high p) few (omega (arith, level-was)) were.size whole;
    were = words-were;
    level_is = refl;
    low_is = refl;
    high_is = refl;
    reached = child-reached;
  }

  hangs : Hangs (view_in c (here s).image) (form_at c (here s)) lower.slot
  hangs = (fits b.below s upper lower good links leaf now).hangs lower.slot (leads b.below s upper lower good links leaf now).stands.inside (λ e. absurd (omega (arith, e, leaf.slot)))

  child : IsChildAt read lower.slot i
  child =
      let st = (leads b.below s upper lower good links leaf now).stands in
      let counted = view-count b.below s upper lower good links leaf now ∙ ap count_of words-were in
      let w : i < (view_in c (here s).image).count p = subst (λ z. z < (view_in c (here s).image).count p) st.index (subst (λ z. (form_at c (here s)).index lower.slot < (view_in c (here s).image).count z) st.up hangs.within) in
      let h : (view_in c (here s).image).child p i ≡ lower.slot = subst (λ z. (view_in c (here s).image).child p z ≡ lower.slot) st.index (subst (λ z. (view_in c (here s).image).child z ((form_at c (here s)).index lower.slot) ≡ lower.slot) st.up hangs.child) in
      record {
        within = omega (arith, w, counted);
        there = ap (λ n. child_of n i) (sym words-were) ∙ (sym (view-child b.below s upper lower good links leaf now i) ∙ h);
        only = λ j l e. sym (stands-at b.below s upper lower good links leaf now j lower.slot (omega (arith, l, ap count_of words-were)) (ap (λ n. child_of n j) words-were ∙ e)).index ∙ st.index;
      }

pub parents-read : Laws → ParentsReadWere
parents-read b s upper lower read good links leaf now were = (parent b s upper lower read good links leaf now were, child b s upper lower read good links leaf now were)

pub children-stand : Standing → ChildrenStand
children-stand b s upper lower read c j good links leaf now parent l e =
    let st : Stands (view_in s.past.config (here s).image) (form_at s.past.config (here s)) upper.slot j c = stands-at b s upper lower good links leaf now j c (omega (arith, l, ap count_of parent.were)) (ap (λ n. child_of n j) parent.were ∙ e) in (
      record {
        since = good.begun;
        now = omega arith;
        slot = slot-of b s upper lower good links leaf now c j st;
        inside = st.inside;
        leaf = flat b s upper lower good links leaf now c j st;
        low_is = low-is b s upper lower good links leaf now c j st ∙ (λ t. low_in (children_of (parent.were t)) (parent.low_is t) j);
        high_is = high-is b s upper lower good links leaf now c j st ∙ (λ t. high_in (children_of (parent.were t)) (parent.high_is t) j);
      },
      record { up = st.up; index = st.index },
    )
