-- An inner node of the tree is not frozen: so where the worker is alone, neither is the root of its path, nor an inner node that stood in the
-- tree.
use Rattle.std.proofs.Common.{◌≡◌, ◌≢◌, ◌⊎◌, ℕ, ◌+◌, ◌-◌, ◌<◌, ◌≤◌, Bool, true, false, List, arith, sym, ap, subst, ◌∙◌, inl, inr}
use Rattle.std.proofs.lemmas.Bool.{true≢false}
use Rattle.std.specs.Prelude.{Option, Some}
use Rattle.bz_layout.specs.Addresses.{node_address}
use Rattle.bz_layout.specs.declared.sizes.TheConstants.{STATUS_AT, ROOT_AT}
use Rattle.bz_any_task.specs.FromInner.LowerFacts.{IsLinkIn}
use Rattle.bz_any_task.specs.FromInner.Neighbours.{StoodAt, StoodBeside, first_of, second_of}
use Rattle.bz_renew.proofs.Words.{node-at}
use Rattle.bz_word.specs.Statuses.{status}
use Rattle.bz_task.specs.Good.{IsGood}
use Rattle.bz_task.specs.Instant.{page_at, form_at, is_inside}
use Rattle.bz_task.specs.Laws.{HasRoot}
use Rattle.bz_task.specs.Outcomes.{IsUnderRoot, IsGuarded}
use Rattle.bz_task.specs.Requests.{Answers}
use Rattle.bz_task.specs.Scene.{Past, Scene, IsScene, here}
use Rattle.bz_task.specs.declared.path.Link.{Link}
use Rattle.bz_task.proofs.Proved.{fronts_stay, headers_say_the_level, roots_are_reached}
use Rattle.bz_undisturbed.specs.Quiet.{IsQuietSince}
use Rattle.bz_undisturbed.specs.Trees.{SameTree}
use Rattle.bz_undisturbed.proofs.Inners.{inner-thawed}
use Rattle.bz_undisturbed.proofs.Links.{guard-same}
use Rattle.bz_undisturbed.proofs.Named.{inner-now}
use Rattle.bz_undisturbed.proofs.Standing.{link-stands}
use Rattle.bz_undisturbed.proofs.Trees.{trees-stand}

-- at a moment since the look-up began it stood in the tree, above the leaves
pub record StoodOnce (k : ℕ) (p : Past) : Type 0 where
  pub at : ℕ
  pub since : p.since ≤ at
  pub now : at ≤ p.now
  pub level : ℕ
  pub inner : 0 < level
  pub low : Option (List ℕ)
  pub high : Option (List ℕ)
  pub stood : StoodAt k at level low high p

-- of two that stood beside each other, the own one and the other
pub both-stood : (right : Bool) (own beside m : ℕ) (sep : List ℕ) (p : Past) → StoodBeside (first_of right own beside) (second_of right own beside) m sep p → StoodOnce own p × StoodOnce beside p
both-stood true own beside m sep p b = (
  record { at = m; since = b.since; now = b.now; level = b.level; inner = b.inner; low = b.low; high = Some sep; stood = b.left },
  record { at = m; since = b.since; now = b.now; level = b.level; inner = b.inner; low = Some sep; high = b.high; stood = b.right },
)
both-stood false own beside m sep p b = (
  record { at = m; since = b.since; now = b.now; level = b.level; inner = b.inner; low = Some sep; high = b.high; stood = b.right },
  record { at = m; since = b.since; now = b.now; level = b.level; inner = b.inner; low = b.low; high = Some sep; stood = b.left },
)

module _ (s : Scene) (good : IsScene s) (q : IsQuietSince s.past.since s.past) where
  g : IsGood s.past.config (here s)
  g = good.history.good s.past.now good.begun (omega arith)

  thawed-now : (k v : ℕ) → k < s.past.config.nodes → is_inside s.past.config (here s) k ≡ true → 0 < (page_at s.past.config (here s) k).level → (here s).value (node_address s.past.config k + STATUS_AT) ≡ v → (status v).frozen ≡ true → ⊥
  thawed-now k v l i high e d =
      let thawed : (status v).frozen ≡ false = subst (λ z. (status z).frozen ≡ false) (node-at s.past.config (here s).value k STATUS_AT (omega arith) ∙ e) (inner-thawed s.past.config (here s) k g l i high) in
      true≢false (sym d ∙ thawed)

  -- the root pointer leads where it led
  pub root-led : (upper : Link) → IsUnderRoot upper → IsGuarded s.past upper → (here s).value ROOT_AT ≡ upper.slot + 1
  root-led upper under guard = ap (here s).value (sym under.pointer) ∙ link-stands s good s.past.since q upper guard guard.since

  module _ (upper middle : Link) (under : IsUnderRoot upper) (guard : IsGuarded s.past upper) (node : IsLinkIn upper.slot middle s.past) where
    has-root : HasRoot s.past.config (here s) upper.slot
    has-root =
        let at : (here s).value ROOT_AT - 1 ≡ upper.slot = omega (arith, root-led upper under guard) in
        subst (HasRoot s.past.config (here s)) at (roots_are_reached s.past.config (here s) g)

    root-inner : 0 < (page_at s.past.config (here s) upper.slot).level
    root-inner = subst (λ (k : ℕ). 0 < (page_at s.past.config (here s) k).level) node.parent (inner-now s good middle node.guard node.under)

    guard-is : middle.guard ≡ node_address s.past.config upper.slot + STATUS_AT
    guard-is = node.under.guard ∙ ap (λ k. node_address s.past.config k + STATUS_AT) node.parent

    -- the status of the root, which is read again
    pub root-as-read : (v : ℕ) → Answers s middle.guard v → (v ≢ middle.status) ⊎ ((status v).frozen ≡ true) → ⊥
    root-as-read v a (inl d) = d (guard-same s good q middle v node.guard a)
    root-as-read v a (inr d) = thawed-now upper.slot v has-root.slot has-root.inside root-inner (ap (here s).value (sym guard-is) ∙ a.value) d

  -- the status of a node that stood in the tree
  module _ (k : ℕ) (w : StoodOnce k s.past) where
    slot : k < s.past.config.nodes
    slot = (good.history.good w.at w.since w.now).slots k w.stood.reached

    below : k ≢ s.past.config.nodes
    below e = absurd (omega (arith, e, slot))

    same : SameTree s.past.config (s.past.at w.at) (here s)
    same = trees-stand s s.past.since w.at s.past.now good q (record { from = w.since; to = w.now }) (record { from = good.begun; to = omega arith })

    inside-now : is_inside s.past.config (here s) k ≡ true
    inside-now = same.inside k ∙ w.stood.inside

    inner-page : 0 < (page_at s.past.config (here s) k).level
    inner-page = omega (arith, (headers_say_the_level s.past.config (here s) k g below inside-now).level, (same.place k below w.stood.inside).level, w.stood.level_is, w.inner)

    pub stood-thawed : (v : ℕ) → (here s).value (node_address s.past.config k + STATUS_AT) ≡ v → (status v).frozen ≡ true → ⊥
    stood-thawed v e d = thawed-now k v slot inside-now inner-page e d

    pub stood-reached : (i : ℕ) → w.at ≤ i → i ≤ s.past.now → (s.past.at i).reached k ≡ true
    stood-reached i from to = (fronts_stay s.past.config s.past.at s.past.since s.past.now w.at i k good.history (record { since = w.since; order = from; until = to }) w.stood.reached).reached
