-- So what is asked before a leaf is made anew, or a full node above it is split, is so.
use Rattle.std.proofs.Common.{◌≡◌, ℕ, ◌+◌, ◌-◌, ◌<◌, true, false, Some, arith, sym, ap, subst, ◌∙◌, inl, inr}
use Rattle.std.specs.Prelude.{slice_get}
use Rattle.bz_ascent.specs.Ascents.{IsAscent}
use Rattle.bz_ascent.specs.Full.{WasLevelFull}
use Rattle.bz_ascent.specs.declared.ascent.Ascent.{Ascent}
use Rattle.bz_ascent.specs.FromBranch.Due.{IsFullStatus}
use Rattle.bz_layout.specs.Addresses.{node_address}
use Rattle.bz_layout.specs.declared.config.Config.{Config}
use Rattle.bz_layout.specs.declared.sizes.TheConstants.{STATUS_AT}
use Rattle.bz_layout.specs.declared.thresholds.TheConstants.{INNER_LIMIT}
use Rattle.bz_renew.specs.Due.{IsStatusOf}
use Rattle.bz_slotted.specs.Page.{page}
use Rattle.bz_word.specs.Statuses.{status}
use Rattle.bz_content.specs.Content.{image_of, view_in}
use Rattle.bz_task.specs.Good.{IsGood}
use Rattle.bz_task.specs.Instant.{durable, page_at, form_at, is_inside}
use Rattle.bz_task.specs.Outcomes.{IsLink, IsUnderNode}
use Rattle.bz_task.specs.Scene.{Scene, IsScene, here}
use Rattle.bz_task.specs.declared.path.Link.{Link}
use Rattle.bz_task.proofs.Proved.{headers_say_the_level}
use Rattle.bz_stage.specs.Paths.{StandsOver, on_path}
use Rattle.bz_stage.specs.Rooms.{words_taken}
use Rattle.bz_stage.specs.Stages.{page_on_path}
use Rattle.bz_stage.proofs.Proved.{paths_are_of_keys}
use Rattle.bz_undisturbed.specs.Undisturbed.{IsUndisturbed}
use Rattle.bz_undisturbed.specs.Quiet.{IsQuietSince}
use Rattle.bz_undisturbed.proofs.Proved.{undisturbed_times_are_quiet, paths_lead_to_leaves}
use Rattle.bz_rounds.specs.Due.{UndisturbedLeavesAreDue, UndisturbedAscentsAreDue}
use Rattle.bz_rounds.proofs.Rising.{full-now}
use Rattle.bz_rounds.proofs.Seeing.{viewed-now}
use Rattle.bz_rounds.proofs.Staying.{tree-at, reached-at, below-height, place-now, stands-over}
use Rattle.bz_rounds.proofs.Thawed.{guard-thawed, status-again, inner-now, inside-here, now}

pub leaves-due : UndisturbedLeavesAreDue
leaves-due key path view s good alone is v = record {
  due = λ frozen link last. record { viewed = record { plain = v.plain; is = frozen }; guard = guard link last; leads = leads link last };
  led = λ link last. record { guard = guard link last; leads = leads link last };
  above = λ deep link e. guard-thawed s good q key path is (path.depth - 2) link (omega (arith, deep)) e;
}
  where
    q : IsQuietSince s.past.since s.past
    q = undisturbed_times_are_quiet.whole s good alone

    guard : (link : Link) → slice_get path.links (path.depth - 1) ≡ Some link → IsStatusOf false link.status
    guard link last = guard-thawed s good q key path is (path.depth - 1) link (omega (arith, is.some)) last

    leads : (link : Link) → slice_get path.links (path.depth - 1) ≡ Some link → link.slot ≡ view.slot
    leads link last = sym (paths_lead_to_leaves s key path link good alone is last) ∙ viewed-now s good alone key view v

-- the node to which an ascent has come, by the link that leads on from it
module _ (s : Scene) (good : IsScene s) (alone : IsUndisturbed 0 s.past) (a : Ascent) (up : IsAscent a s.past) (deep : a.place + 1 < a.path.depth) where
  abbrev c : Config
  c = s.past.config

  abbrev k : ℕ
  k = a.node.slot

  q : IsQuietSince s.past.since s.past
  q = undisturbed_times_are_quiet.whole s good alone

  on : IsLink a.key s.past a.node
  on = up.path.links a.place a.node up.within up.node

  thawed : (i : ℕ) (link : Link) → i < a.path.depth → slice_get a.path.links i ≡ Some link → IsStatusOf false link.status
  thawed = guard-thawed s good q a.key a.path up.path

  module _ (lower : Link) (e : slice_get a.path.links (a.place + 1) ≡ Some lower) where
    l : IsLink a.key s.past lower
    l = up.path.links (a.place + 1) lower deep e

    at : lower.guard ≡ node_address s.past.config a.node.slot + STATUS_AT
    at = up.path.below a.place a.node lower deep up.node e

    module _ (u : IsUnderNode s.past lower l.guarded.guarded) where
      good-now : IsGood s.past.config (here s)
      good-now = now s good q lower l.guarded a.key a.node on at u

      inside : is_inside c (here s) k ≡ true
      inside = inside-here s good q lower l.guarded a.key a.node on at u

      abbrev level : ℕ
      level = (form_at s.past.config (here s)).level a.node.slot

      some : 0 < level
      some = let h : (page_at c (here s) k).level ≡ level = (headers_say_the_level c (here s) k good-now (λ e. absurd (omega (arith, e, on.slot))) inside).level in
          omega (arith, h, inner-now s good q lower l.guarded a.key a.node on at u)

      over : StandsOver (form_at c (here s)) a.key level k
      over = stands-over s good q on.was on.since on.now k on.slot on.inside a.key level (sym (place-now s good q on.was on.since on.now k on.slot on.inside).level) on.range

      there : on_path (view_in c (here s).image) a.key level ≡ k
      there = (paths_are_of_keys (view_in c (here s).image) a.key level k (tree-at c (here s) k good-now on.slot inside) (omega (arith, below-height c (here s) k good-now on.slot inside))).0 over

      stood : level ≡ up.full.level
      stood = (place-now s good q up.full.stood.moment up.full.stood.since up.full.stood.now k up.full.within up.full.stood.inside).level ∙ up.full.stood.at_level

      many : INNER_LIMIT < words_taken (page_on_path c (image_of (here s).image) a.key level)
      many = let f : WasLevelFull a.key level s.past = up.full.each level some (omega (arith, stood)) in full-now s good q a.key f.slot level f.full some

      status-is : durable c (here s) k STATUS_AT ≡ lower.status
      status-is = good-now.shown k STATUS_AT (reached-at c (here s) k good-now on.slot inside) (inl (omega arith)) ∙ status-again s good q lower l.guarded a.key a.node on at u

      counted : words_taken (page_on_path c (image_of (here s).image) a.key level) ≡ (status lower.status).count + (status lower.status).block
      counted = ap (λ j. words_taken (page (durable c (here s) j))) there ∙ ap (λ z. (status z).count + (status z).block) status-is

      full-there : IsFullStatus lower.status
      full-there = record { thawed = thawed (a.place + 1) lower deep e; many = subst (λ n. INNER_LIMIT < n) counted many }

    full : IsFullStatus lower.status
    full = elim l.guarded.under [ inl u ↦ absurd (omega (arith, u.guard, at)) | inr u ↦ full-there u ]

place-is : (i n : ℕ) → i ≡ n → (a : Ascent) (link : Link) → slice_get a.path.links i ≡ Some link → slice_get a.path.links n ≡ Some link
place-is i n same a link e = subst (λ z. slice_get a.path.links z ≡ Some link) same e

two-on : (i : ℕ) → 0 < i → i - 1 + 2 ≡ i + 1
two-on i h = omega (arith, h)

one-on : (i : ℕ) → i ≡ 0 → 1 ≡ i + 1
one-on i h = omega (arith, h)

pub ascents-due : UndisturbedAscentsAreDue
ascents-due a s good alone up deep = record {
  below = λ some. record {
    deep = omega (arith, some, deep);
    links = λ upper middle lower e f g. record {
      upper_thawed = thawed s good alone a up deep (a.place - 1) upper (omega (arith, deep)) e;
      thawed = thawed s good alone a up deep (a.place - 1 + 1) middle (omega (arith, some, deep)) f;
      full = full s good alone a up deep lower (place-is (a.place - 1 + 2) (a.place + 1) (two-on a.place some) a lower g);
    };
  };
  root = λ none. record {
    deep = omega (arith, none, deep);
    links = λ upper lower e f. record {
      thawed = thawed s good alone a up deep 0 upper (omega (arith, deep)) e;
      full = full s good alone a up deep lower (place-is 1 (a.place + 1) (one-on a.place none) a lower f);
    };
  };
}
