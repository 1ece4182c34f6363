-- The leaf at the end of a path is the one of its key.
use Rattle.std.proofs.Common.{◌≡◌, ◌+◌, ◌-◌, arith, refl, sym, subst, ◌∙◌, inl, inr}
use Rattle.bz_layout.specs.Addresses.{node_address}
use Rattle.bz_layout.specs.declared.sizes.TheConstants.{HEADER_AT}
use Rattle.bz_renew.proofs.Words.{node-at, and-left, and-right}
use Rattle.bz_tree.specs.Form.{Holds}
use Rattle.bz_tree.specs.Order.{is_at_least, is_below}
use Rattle.bz_tree.specs.Walk.{IsTree}
use Rattle.bz_tree.proofs.Proved.{leaves_tile_the_keys}
use Rattle.bz_word.specs.Headers.{header}
use Rattle.bz_content.specs.Content.{view_in, leaf_in}
use Rattle.bz_content.proofs.Proved.{well_formed_images_have_no_fault}
use Rattle.bz_task.specs.Good.{IsGood}
use Rattle.bz_task.specs.Instant.{words, page_at, form_at}
use Rattle.bz_task.specs.Outcomes.{IsLink, EndsAtLeaf}
use Rattle.bz_task.specs.Scene.{Past}
use Rattle.bz_task.specs.Shown.{IsRead}
use Rattle.bz_task.proofs.Proved.{headers_say_the_level}
use Rattle.bz_undisturbed.specs.Quiet.{IsQuietSince}
use Rattle.bz_undisturbed.specs.Trees.{PathsLeadToLeaves}
use Rattle.bz_undisturbed.proofs.Quiet.{undisturbed, read-values}
use Rattle.bz_undisturbed.proofs.Trees.{trees-stand}

pub paths-lead : PathsLeadToLeaves
paths-lead s key path link good alone is last = now
  where
    p : Past
    p = s.past

    q : IsQuietSince s.past.since s.past
    q = undisturbed.whole s good alone

    on : IsLink key s.past link
    on = is.links (path.depth - 1) link (omega (arith, is.some)) last

    end : EndsAtLeaf s.past link
    end = is.leaf (path.depth - 1) link (omega (arith, is.some)) last

    good-then : IsGood s.past.config (s.past.at on.was)
    good-then = good.history.good on.was on.since on.now

    header-read : IsRead s.past.config (s.past.at end.was) (node_address s.past.config link.slot + HEADER_AT)
    header-read = inr (inr (record { slot = link.slot; place = HEADER_AT; address = refl; within = omega arith; reached = end.reached; shown = inl (omega arith) }))

    header-same : words s.past.config (s.past.at on.was) link.slot HEADER_AT ≡ words s.past.config (s.past.at end.was) link.slot HEADER_AT
    header-same =
        node-at s.past.config (s.past.at on.was).value link.slot HEADER_AT (omega arith)
        ∙ (read-values s s.past.since end.was (node_address s.past.config link.slot + HEADER_AT) good q (record { from = end.since; to = end.now }) header-read on.was end.was (record { from = on.since; to = on.now }) (record { from = end.since; to = end.now })
        ∙ sym (node-at s.past.config (s.past.at end.was).value link.slot HEADER_AT (omega arith)))

    flat : (page_at s.past.config (s.past.at on.was) link.slot).level ≡ 0
    flat = subst (λ z. (header z).level ≡ 0) (sym header-same) end.leaf

    holds : Holds (form_at s.past.config (s.past.at on.was)) key link.slot
    holds = record {
      inside = on.inside;
      leaf = sym (headers_say_the_level s.past.config (s.past.at on.was) link.slot good-then (λ e. absurd (omega (arith, e, on.slot))) on.inside).level ∙ flat;
      low = and-left (is_at_least key ((form_at s.past.config (s.past.at on.was)).low link.slot)) (is_below key ((form_at s.past.config (s.past.at on.was)).high link.slot)) on.range;
      high = and-right (is_at_least key ((form_at s.past.config (s.past.at on.was)).low link.slot)) (is_below key ((form_at s.past.config (s.past.at on.was)).high link.slot)) on.range;
    }

    tree : IsTree (view_in s.past.config (s.past.at on.was).image)
    tree = ((well_formed_images_have_no_fault s.past.config (s.past.at on.was).image).0 good-then.form).tree

    then-leaf : leaf_in s.past.config (s.past.at on.was).image key ≡ link.slot
    then-leaf = (leaves_tile_the_keys (view_in s.past.config (s.past.at on.was).image) tree key link.slot).0 holds

    now : leaf_in s.past.config (s.past.at s.past.now).image key ≡ link.slot
    now = (trees-stand s s.past.since on.was s.past.now good q (record { from = on.since; to = on.now }) (record { from = good.begun; to = omega arith })).leaf key ∙ then-leaf
