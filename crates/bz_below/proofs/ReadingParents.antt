-- The words that were read of the parent of a node, a leaf or an inner one, are those of one moment.
use Rattle.std.proofs.Common.{◌≡◌, ◌≢◌, ℕ, ◌+◌, ◌<◌, ◌≤◌, ◌==◌, if◌then◌else◌, true, false, List, length, arith, refl, sym, ap, subst, ◌∙◌, inl, inr, Option}
use Rattle.std.specs.Prelude.{Some, None}
use Rattle.std.proofs.lemmas.Bool.{cases_eq}
use Rattle.std.proofs.lemmas.Bool.Decides.{nat_tests}
use Rattle.bz_key.specs.Bytes.{IsKey}
use Rattle.bz_layout.specs.Addresses.{node_address}
use Rattle.bz_layout.specs.declared.config.Config.{Config}
use Rattle.bz_layout.specs.declared.limits.TheConstants.{MAX_NODES}
use Rattle.bz_layout.specs.declared.sizes.TheConstants.{NODE_WORDS, STATUS_AT}
use Rattle.bz_node.specs.Reading.{children_in}
use Rattle.bz_node.specs.Records.{IsAbove, IsBelow}
use Rattle.bz_node.specs.declared.child.Child.{Child}
use Rattle.bz_tree.specs.Form.{Form, Stands, Hangs}
use Rattle.bz_tree.specs.View.{View}
use Rattle.bz_slotted.specs.Readers.{count_of, child_of, key_of}
use Rattle.bz_slotted.specs.ReadingLaws.{node_of, child_read, ReadsAsChildren, WholeInnersAreReadable}
use Rattle.bz_slotted.specs.Rules.{node_fault}
use Rattle.bz_word.specs.Statuses.{status}
use Rattle.bz_content.specs.Content.{view_in}
use Rattle.bz_content.specs.Image.{node}
use Rattle.bz_halves.specs.Parents.{child_at, low_of, high_of, ReadChildrenMayBeParted}
use Rattle.bz_task.specs.Good.{IsGood}
use Rattle.bz_task.specs.Instant.{Instant, words, durable, page_at, form_at, is_inside}
use Rattle.bz_task.specs.Laws.{AreMoments, SamePlace, RangesStay}
use Rattle.bz_task.specs.Scene.{Scene, IsScene, here}
use Rattle.bz_task.specs.declared.path.Link.{Link}
use Rattle.bz_renew.specs.Standing.{StillLeads, GuardedLinksStand}
use Rattle.bz_below.proofs.OpenNodes.{Laws as Basis, IsOpen, fits, below_top, inside, alike, high_up, no-fault}
use Rattle.bz_renew.proofs.Words.{node-at}
use Rattle.bz_split.specs.BelowSplits.{AreLinksDown}
use Rattle.bz_below.specs.Parents.{WereRead, WasParent, ReadParentsWere}
use Rattle.bz_below.proofs.ReadWords.{words-then}

-- the laws on which it rests
pub record Laws : Type 0 where
  pub basis : Basis
  pub readable : WholeInnersAreReadable
  pub partable : ReadChildrenMayBeParted
  pub stand : GuardedLinksStand
  pub ranges : RangesStay

other-test : (a b : ℕ) → a ≢ b → (a == b) ≡ false
other-test a b ne = grind (arith, nat_tests)

same-test : (a b : ℕ) → a ≡ b → (a == b) ≡ true
same-test a b e = grind (arith, nat_tests)

-- two choices by one test
same-choice : (a b c d : ℕ) (x y z w : Option (List ℕ)) → a ≡ c → b ≡ d → x ≡ z → (a ≢ b → y ≡ w) → (if a == b then x else y) ≡ (if c == d then z else w)
same-choice a b c d x y z w left right one two = elim (cases_eq a b) [
  | inl e ↦ (let t : (a == b) ≡ true = same-test a b e in let u : (c == d) ≡ true = same-test c d (sym left ∙ (e ∙ right)) in rw (t, u) one)
  | inr ne ↦ (let t : (a == b) ≡ false = other-test a b ne in let u : (c == d) ≡ false = other-test c d (λ e. ne (left ∙ (e ∙ sym right))) in rw (t, u) (two ne))
]

later-low : (n : ℕ → ℕ) (j : ℕ) → j ≢ 0 → (child_read n j).low ≡ Some (key_of n j)
later-low n j ne = let t : (j == 0) ≡ false = other-test j 0 ne in rw t refl

abbrev none : Child
none = record { low = None; slot = 0 }

module _ (b : Laws) (s : Scene) (upper lower : Link) (m : ℕ) (sep read : List ℕ) (good : IsScene s) (links : AreLinksDown upper lower s.past) (since : s.past.since ≤ m) (until : m ≤ s.past.now) (there_then : is_inside s.past.config (s.past.at m) lower.slot ≡ true) (now : (here s).value lower.guard ≡ lower.status) (were : WereRead upper.slot links.guard.guarded lower.status NODE_WORDS read s.past) where
  abbrev p : ℕ
  p = upper.slot

  abbrev a : ℕ
  a = lower.slot

  abbrev g : ℕ
  g = links.guard.guarded

  abbrev i : ℕ
  i = links.under.child.child

  abbrev c : Config
  c = s.past.config

  abbrev was : Instant
  was = s.past.at links.guard.guarded

  leads : StillLeads lower s g p i
  leads = subst (λ z. StillLeads lower s g z i) links.parent (b.stand s lower good links.guard links.thawed links.under now)

  moments : AreMoments s.past.since s.past.now g s.past.now
  moments = record { since = links.guard.since; order = omega (arith, links.guard.order, links.guard.now); until = omega arith }

  was-good : IsGood c was
  was-good = good.history.good g links.guard.since (omega (arith, links.guard.order, links.guard.now))

  here-good : IsGood c (here s)
  here-good = good.history.good s.past.now good.begun (omega arith)

  reached : was.reached p ≡ true
  reached = subst (λ z. was.reached z ≡ true) links.parent links.under.reached

  inner : 0 < (page_at c was p).level
  inner = subst (λ z. 0 < (page_at c was z).level) links.parent links.under.child.inner

  guard-is : lower.guard ≡ node_address c p + STATUS_AT
  guard-is = links.under.guard ∙ ap (λ z. node_address c z + STATUS_AT) links.parent

  status-was : words c was p STATUS_AT ≡ lower.status
  status-was = node-at c was.value p STATUS_AT (omega arith) ∙ (ap was.value (sym guard-is) ∙ links.guard.status)

  status-now : words c (here s) p STATUS_AT ≡ lower.status
  status-now = node-at c (here s).value p STATUS_AT (omega arith) ∙ (ap (here s).value (sym guard-is) ∙ now)

  opened : IsOpen c was p
  opened = record { reached = reached; thawed = ap (λ z. (status z).frozen) status-was ∙ links.thawed; inner = inner }

  abbrev l : ℕ
  l = (form_at c was).level p

  abbrev lo : Option (List ℕ)
  lo = (form_at c was).low p

  abbrev hi : Option (List ℕ)
  hi = (form_at c was).high p

  level-high : 0 < l
  level-high = high_up b.basis c was p was-good opened

  pub words-were : words c was p ≡ node_of read
  words-were = words-then b.basis.nodes b.basis.inner s p g lower.status l lo hi read good links.guard.since (omega (arith, links.guard.order, links.guard.now)) reached inner status-was status-now level-high (no-fault b.basis c was p was-good opened) were

  whole : node_fault c.nodes (node c was.image p) (node_of read) l lo hi ≡ None
  whole = subst (λ n. node_fault c.nodes (node c was.image p) n l lo hi ≡ None) (alike b.basis c was p was-good opened ∙ words-were) (no-fault b.basis c was p was-good opened)

  few : c.nodes ≤ MAX_NODES
  few = good.config.nodes_in_range.at_most

  reads : ReadsAsChildren read
  reads = b.readable c.nodes (node c was.image p) read l lo hi few level-high were.size whole

  -- as the parent stands now
  p-below : p ≢ c.nodes
  p-below = below_top b.basis c was p was-good opened

  same-words : durable c (here s) p ≡ node_of read
  same-words = (λ t k. here-good.shown p k leads.reached (inr (inr (inl leads.inner))) t) ∙ ((λ t k. leads.same k (inr (inr (inl inner))) t) ∙ words-were)

  same-place : SamePlace c was (here s) p
  same-place = b.ranges c s.past.at s.past.since s.past.now g s.past.now p good.history moments p-below (inside b.basis c was p was-good opened) leads.inside

  -- the node's slot is none of the superblock
  a-below : a ≢ c.nodes
  a-below e =
      let h : Hangs (view_in c (here s).image) (form_at c (here s)) p = (fits b.basis c (here s) here-good).hangs p leads.inside p-below in
      absurd (omega (arith, leads.stands.level, h.lower, (fits b.basis c (here s) here-good).height, ap (form_at c (here s)).level e))

  node-place : SamePlace c (s.past.at m) (here s) a
  node-place = b.ranges c s.past.at s.past.since s.past.now m s.past.now a good.history (record { since = since; order = until; until = omega arith }) a-below there_then leads.stands.inside

  abbrev v : View
  v = view_in c (here s).image

  abbrev f : Form
  f = form_at c (here s)

  view-count : v.count p ≡ count_of (node_of read)
  view-count = let t : (p == c.nodes) ≡ false = other-test p c.nodes p-below in rw t (ap count_of same-words)

  view-child : (j : ℕ) → v.child p j ≡ child_of (node_of read) j
  view-child j = let t : (p == c.nodes) ≡ false = other-test p c.nodes p-below in rw t (ap (λ n. child_of n j) same-words)

  view-key : (j : ℕ) → v.key p j ≡ key_of (node_of read) j
  view-key j = let t : (p == c.nodes) ≡ false = other-test p c.nodes p-below in rw t (ap (λ n. key_of n j) same-words)

  hangs : Hangs v f a
  hangs = (fits b.basis c (here s) here-good).hangs a leads.stands.inside a-below

  within : i < length (children_in read)
  within =
      let w : f.index a < v.count p = subst (λ z. f.index a < v.count z) leads.stands.up hangs.within in
      subst (λ z. i < z) (view-count ∙ sym reads.count) (subst (λ z. z < v.count p) leads.stands.index w)

  slot-read : (j : ℕ) → j < length (children_in read) → (child_at (children_in read) j).slot ≡ v.child p j
  slot-read j k = ap (λ (z : Child). z.slot) (reads.children j none (omega (arith, k, reads.count))) ∙ sym (view-child j)

  pub there : (child_at (children_in read) i).slot ≡ a
  there =
      let h : v.child p i ≡ a = subst (λ z. v.child p z ≡ a) leads.stands.index (subst (λ z. v.child z (f.index a) ≡ a) leads.stands.up hangs.child) in
      slot-read i within ∙ h

  pub only : (j : ℕ) → j < length (children_in read) → (child_at (children_in read) j).slot ≡ a → j ≡ i
  only j k e =
      let tall : 0 < f.level p = omega (arith, leads.stands.level) in
      let st : Stands v f p j (v.child p j) = (fits b.basis c (here s) here-good).down p j leads.inside tall (subst (λ z. j < z) (reads.count ∙ sym view-count) k) in
      let on : Stands v f p j a = subst (λ z. Stands v f p j z) (sym (slot-read j k) ∙ e) st in
      sym on.index ∙ leads.stands.index

  -- the bounds of the child are those that the node had
  low-is : low_of (children_in read) lo i ≡ (form_at c (s.past.at m)).low a
  low-is =
      same-choice i 0 i 0 lo (child_at (children_in read) i).low (f.low p) (Some (v.key p i)) refl refl (sym same-place.low)
      (λ ne. ap (λ (z : Child). z.low) (reads.children i none (omega (arith, within, reads.count))) ∙ (later-low (node_of read) i ne ∙ ap Some (sym (view-key i))))
      ∙ (sym leads.stands.low ∙ node-place.low)

  high-is : high_of (children_in read) hi i ≡ (form_at c (s.past.at m)).high a
  high-is =
      same-choice (i + 1) (length (children_in read)) (i + 1) (v.count p) hi (child_at (children_in read) (i + 1)).low (f.high p) (Some (v.key p (i + 1))) refl (reads.count ∙ sym view-count) (sym same-place.high)
      (λ ne. ap (λ (z : Child). z.low) (reads.children (i + 1) none (omega (arith, within, ne, reads.count))) ∙ (later-low (node_of read) (i + 1) (λ e. absurd (omega (arith, e))) ∙ ap Some (sym (view-key (i + 1)))))
      ∙ (sym leads.stands.high ∙ node-place.high)

  pub was-parent : IsKey sep → IsAbove ((form_at c (s.past.at m)).low a) sep → IsBelow ((form_at c (s.past.at m)).high a) sep → WasParent upper lower g i sep read s.past
  was-parent key above below = record {
    level = l;
    low = lo;
    high = hi;
    parent = record {
      raw = node c was.image p;
      few = few;
      size = were.size;
      inner = level-high;
      lowest = ((b.basis.inner c.nodes (node c was.image p) (node_of read) l lo hi level-high).0 whole).level.lowest;
      none = whole;
      partable = b.partable c.nodes (node c was.image p) read l lo hi i sep few level-high were.size whole within key (subst (λ z. IsAbove z sep) (sym low-is) above) (subst (λ z. IsBelow z sep) (sym high-is) below);
      there = there;
      only = only;
    };
    reached = reached;
    inside = inside b.basis c was p was-good opened;
    were = words-were;
    level_is = refl;
    low_is = refl;
    high_is = refl;
  }

pub read-parents : Laws → ReadParentsWere
read-parents b s upper lower m sep read good links leaf now were key above below = was-parent b s upper lower m sep read good links leaf.since leaf.now leaf.inside now were key above below
