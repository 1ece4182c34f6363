-- No guard on the way to a key was a frozen node's: inner nodes of the tree are not frozen, and of the root status the stamp alone is set.
use Rattle.std.proofs.Common.{◌≡◌, ℕ, ◌+◌, ◌-◌, ◌^◌, ◌/◌, ◌%◌, ◌<◌, ◌≤◌, ◌==◌, ◌&&◌, if◌then◌else◌, List, Bool, true, false, Some, None, arith, refl, sym, ap, subst, ◌∙◌, inl, inr}
use Rattle.std.specs.Prelude.{slice_get, nat_lt, nat_le}
use Rattle.std.proofs.lemmas.Bool.{cases_lt}
use Rattle.std.proofs.lemmas.Bool.Decides.{nat_tests}
use Rattle.std.proofs.lemmas.Option.{slice_get_within, slice_get_cases}
use Rattle.bz_layout.specs.Addresses.{node_address}
use Rattle.bz_layout.specs.declared.config.Config.{Config}
use Rattle.bz_layout.specs.declared.sizes.TheConstants.{STATUS_AT, HEADER_AT, ROOT_AT, ROOT_STATUS_AT}
use Rattle.bz_renew.specs.Due.{IsStatusOf}
use Rattle.bz_tree.proofs.TreeForms.{fits}
use Rattle.bz_tree.specs.declared.rule.ShapeRule.TheVariants.{Root}
use Rattle.bz_slotted.specs.Page.{page}
use Rattle.bz_slotted.specs.Whole.{WholeInner}
use Rattle.bz_slotted.proofs.Proved.{inner_rules_are_facts}
use Rattle.bz_word.specs.Headers.{header}
use Rattle.bz_word.specs.Statuses.{status}
use Rattle.bz_content.specs.Content.{view_in}
use Rattle.bz_content.specs.Image.{node}
use Rattle.bz_content.specs.Resolving.{resolve}
use Rattle.bz_content.specs.View.{root_fault}
use Rattle.bz_content.proofs.Proved.{well_formed_images_have_no_fault}
use Rattle.bz_task.specs.Good.{IsGood}
use Rattle.bz_task.specs.Instant.{Instant, words, durable, page_at, form_at, is_inside}
use Rattle.bz_task.specs.Outcomes.{IsPath, IsLink, IsUnderRoot, IsUnderNode, IsGuarded}
use Rattle.bz_task.specs.Scene.{Scene, IsScene, here}
use Rattle.bz_task.specs.declared.path.Link.{Link}
use Rattle.bz_task.specs.declared.path.Path.{Path}
use Rattle.bz_task.proofs.Proved.{headers_say_the_level}
use Rattle.bz_renew.proofs.Words.{node-at}
use Rattle.bz_undisturbed.specs.Quiet.{IsQuietSince}
use Rattle.bz_undisturbed.proofs.Proved.{undisturbed_times_are_quiet}
use Rattle.bz_rounds.specs.Due.{UndisturbedGuardsAreThawed}
use Rattle.bz_rounds.proofs.Staying.{not-top, reached-at, no-fault, good-then, word-stays, inside-now}

-- an inner node of the tree
module _ (c : Config) (x : Instant) (k : ℕ) (g : IsGood c x) (within : k < c.nodes) (inside : is_inside c x k ≡ true) (high : 0 < (page_at c x k).level) where
  level : (page_at c x k).level ≡ (form_at c x).level k
  level = (headers_say_the_level c x k g (not-top c x k g within inside) inside).level

  whole : WholeInner c.nodes (node c x.image k) (page (durable c x k)) ((form_at c x).level k) ((form_at c x).low k) ((form_at c x).high k)
  whole = (inner_rules_are_facts c.nodes (node c x.image k) (durable c x k) ((form_at c x).level k) ((form_at c x).low k) ((form_at c x).high k) (omega (arith, level, high))).0 (no-fault c x k g within inside)

  inner-thawed : IsStatusOf false (words c x k STATUS_AT)
  inner-thawed = subst (λ z. IsStatusOf false z) (g.shown k STATUS_AT (reached-at c x k g within inside) (inl (omega arith))) (record { plain = whole.filled.status; is = whole.settled.thawed })

-- the root status
root-tested : (nodes pointer st : ℕ) → root_fault nodes pointer st ≡ None → st < 2 ^ 32
unfolding root_fault
root-tested nodes pointer st e = go (nat_lt 0 pointer) (nat_le pointer nodes) (nat_lt st (2 ^ 32)) refl e
  where
    go : (a t d : Bool) → nat_lt st (2 ^ 32) ≡ d → (if a && (t && d) then None else Some Root) ≡ None → st < 2 ^ 32
    go true true true q e = grind (arith, nat_tests)
    go true true false q e = absurd (cc)
    go true false d q e = absurd (cc)
    go false t d q e = absurd (cc)

stamp-alone : (st : ℕ) → st < 2 ^ 32 → (status st).frozen ≡ false
unfolding status
stamp-alone st l = let e : st / 2 ^ 60 % 2 ^ 1 ≡ 0 = omega (arith, l) in rw e refl

itself : (a : ℕ) → (a == a) ≡ true
itself a = grind (arith, nat_tests)

root-thawed : (c : Config) (x : Instant) → IsGood c x → IsStatusOf false (x.value ROOT_STATUS_AT)
root-thawed c x g =
    let none : root_fault c.nodes (resolve x.image ROOT_AT) (resolve x.image ROOT_STATUS_AT) ≡ None =
    rw (itself c.nodes) at ((fits (view_in c x.image) ((well_formed_images_have_no_fault c x.image).0 g.form).tree).super) in
    let few : x.value ROOT_STATUS_AT < 2 ^ 32 = subst (λ z. z < 2 ^ 32) g.root_status (root-tested c.nodes (resolve x.image ROOT_AT) (resolve x.image ROOT_STATUS_AT) none) in
    record { plain = omega (arith, few); is = stamp-alone (x.value ROOT_STATUS_AT) few }

module _ (s : Scene) (good : IsScene s) (q : IsQuietSince s.past.since s.past) (link : Link) (g : IsGuarded s.past link) where
  until : g.guarded ≤ s.past.now
  until = omega (arith, g.order, g.now)

  -- the root's link
  under-root : IsUnderRoot link → IsStatusOf false link.status
  under-root u = subst (λ z. IsStatusOf false z) (ap (s.past.at g.guarded).value (sym u.guard) ∙ g.status) (root-thawed s.past.config (s.past.at g.guarded) (good-then s good q g.guarded g.since until))

  -- a link in a node to which another one has led: that is an inner node of the tree, whose status is the guard
  module _ (key : List ℕ) (above : Link) (l : IsLink key s.past above) (at : link.guard ≡ node_address s.past.config above.slot + STATUS_AT) (u : IsUnderNode s.past link g.guarded) where
    parent : u.parent ≡ above.slot
    parent = omega (arith, u.guard, at)

    reached : (s.past.at g.guarded).reached above.slot ≡ true
    reached = subst (λ z. (s.past.at g.guarded).reached z ≡ true) parent u.reached

    front-stays : (i : ℕ) → i ≤ HEADER_AT → words s.past.config (here s) above.slot i ≡ words s.past.config (s.past.at g.guarded) above.slot i
    front-stays i le = word-stays s good q g.guarded g.since until above.slot i reached (inl (omega (arith, le)))

    pub status-again : words s.past.config (here s) above.slot STATUS_AT ≡ link.status
    status-again =
        front-stays STATUS_AT (omega arith)
        ∙ (node-at s.past.config (s.past.at g.guarded).value above.slot STATUS_AT (omega arith) ∙ (ap (s.past.at g.guarded).value (sym at) ∙ g.status))

    pub inner-now : 0 < (page_at s.past.config (here s) above.slot).level
    inner-now = subst (λ z. 0 < (header z).level) (sym (front-stays HEADER_AT (omega arith))) (subst (λ z. 0 < (page_at s.past.config (s.past.at g.guarded) z).level) parent u.child.inner)

    pub now : IsGood s.past.config (here s)
    now = good.history.good s.past.now good.begun (omega arith)

    pub inside-here : is_inside s.past.config (here s) above.slot ≡ true
    inside-here = inside-now s good q l.was l.since l.now above.slot l.slot l.inside

    under-node : IsStatusOf false link.status
    under-node = subst (λ z. IsStatusOf false z) status-again (inner-thawed s.past.config (here s) above.slot now l.slot inside-here inner-now)

before : (i : ℕ) → 0 < i → i ≡ i - 1 + 1
before i h = omega (arith, h)

-- a link of a path
module _ (s : Scene) (good : IsScene s) (q : IsQuietSince s.past.since s.past) (key : List ℕ) (path : Path) (is : IsPath key path s.past) where
  below : (i : ℕ) (link : Link) → 0 < i → i < path.depth → slice_get path.links i ≡ Some link → (g : IsGuarded s.past link) → IsUnderNode s.past link g.guarded → IsStatusOf false link.status
  below i link some lt e g u = elim (slice_get_cases path.links (i - 1)).1 [
    | inr past ↦ absurd (omega (arith, slice_get_within path.links i link e, past.0))
    | inl found ↦ (
        let above : Link = found.0 in
        let next : slice_get path.links (i - 1 + 1) ≡ Some link = subst (λ z. slice_get path.links z ≡ Some link) (before i some) e in
        under-node s good q link g key above (is.links (i - 1) above (omega (arith, lt)) found.2) (is.below (i - 1) above link (omega (arith, some, lt)) found.2 next) u)
  ]

  pub guard-thawed : (i : ℕ) (link : Link) → i < path.depth → slice_get path.links i ≡ Some link → IsStatusOf false link.status
  guard-thawed i link lt e = elim (is.links i link lt e).guarded.under [
    | inl u ↦ under-root s good q link (is.links i link lt e).guarded u
    | inr u ↦ elim (cases_lt 0 i) [
      | inl some ↦ below i link some lt e (is.links i link lt e).guarded u
      | inr none ↦ (
          let first : i ≡ 0 = omega (arith, none) in
          under-root s good q link (is.links i link lt e).guarded (is.first link (subst (λ z. slice_get path.links z ≡ Some link) first e)))
    ]
  ]

pub guards-thawed : UndisturbedGuardsAreThawed
guards-thawed key path s good alone is i link lt e = guard-thawed s good (undisturbed_times_are_quiet.whole s good alone) key path is i link lt e
