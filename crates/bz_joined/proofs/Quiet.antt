-- In a quiet time the nodes of the tree stand: an inner node with all its words, and a leaf with as many live words.
use Rattle.std.proofs.Common.{◌≡◌, ◌≢◌, ℕ, zero, suc, ◌+◌, ◌<◌, if◌then◌else◌, true, arith, refl, sym, ap, ◌∙◌, inl, inr}
use Rattle.std.proofs.lemmas.Bool.{cases_lt}
use Rattle.bz_layout.specs.Addresses.{node_address}
use Rattle.bz_layout.specs.declared.config.Config.{Config}
use Rattle.bz_layout.specs.declared.sizes.TheConstants.{NODE_WORDS, STATUS_AT, META_AT}
use Rattle.bz_renew.proofs.Words.{node-at, node-past}
use Rattle.bz_tree.proofs.TreeForms.{fits}
use Rattle.bz_tree.specs.Form.{Fits}
use Rattle.bz_tree.specs.Walk.{IsTree}
use Rattle.bz_slotted.specs.Page.{meta_of, page, visible}
use Rattle.bz_slotted.specs.Records.{live_to, live_words, weight}
use Rattle.bz_word.specs.Statuses.{status}
use Rattle.bz_word.specs.declared.meta.Meta.{Meta}
use Rattle.bz_content.specs.Content.{view_in}
use Rattle.bz_content.proofs.Proved.{well_formed_images_have_no_fault}
use Rattle.bz_task.specs.Good.{IsGood}
use Rattle.bz_task.specs.Instant.{Instant, words, durable, form_at, is_inside}
use Rattle.bz_task.specs.Scene.{Scene, IsScene}
use Rattle.bz_task.specs.Shown.{IsShown}
use Rattle.bz_task.proofs.Proved.{headers_say_the_level}
use Rattle.bz_rounds.specs.FromAlone.Quiet.{IsQuietSince, IsIn}
use Rattle.bz_rounds.specs.FromAlone.Trees.{SameTree}
use Rattle.bz_rounds.proofs.FromAlone.Proved.{read_values_stand, trees_stand}

-- the same records, as many live words
live-to-same : (f g : ℕ → Meta) (n : ℕ) → ((j : ℕ) → j < n → f j ≡ g j) → live_to f n ≡ live_to g n
unfolding live_to
live-to-same f g zero h = refl
live-to-same f g (suc n) h = λ t. live-to-same f g n (λ j l. h j (omega arith)) t + (if visible (h n (omega arith) t) then 1 + weight (h n (omega arith) t) else 0)

-- at one moment
module _ (c : Config) (x : Instant) (good : IsGood c x) where
  pub tree-at : IsTree (view_in c x.image)
  tree-at = ((well_formed_images_have_no_fault c x.image).0 good.form).tree

  pub fits-at : Fits (view_in c x.image) (form_at c x)
  fits-at = fits (view_in c x.image) tree-at

  -- all words of an inner node are read
  inner-shown : (k : ℕ) → k ≢ c.nodes → is_inside c x k ≡ true → 0 < (form_at c x).level k → (p : ℕ) → IsShown (words c x k) p
  inner-shown k ne inside high p = inr (inr (inl (omega (arith, high, (headers_say_the_level c x k good ne inside).level))))

  pub inner-read : (k : ℕ) → k ≢ c.nodes → is_inside c x k ≡ true → 0 < (form_at c x).level k → durable c x k ≡ words c x k
  inner-read k ne inside high = λ t p. good.shown k p (good.inside k inside ne) (inner-shown k ne inside high p) t

-- at two
module _ (s : Scene) (m i j : ℕ) (good : IsScene s) (q : IsQuietSince m s.past) (in-i : IsIn m s.past i) (in-j : IsIn m s.past j) where
  abbrev c : Config
  c = s.past.config

  abbrev x : Instant
  x = s.past.at i

  abbrev y : Instant
  y = s.past.at j

  pub good-first : IsGood s.past.config (s.past.at i)
  good-first = good.history.good i (omega (arith, q.since, in-i.from)) in-i.to

  pub good-second : IsGood s.past.config (s.past.at j)
  good-second = good.history.good j (omega (arith, q.since, in-j.from)) in-j.to

  pub same-tree : SameTree s.past.config (s.past.at i) (s.past.at j)
  same-tree = trees_stand s m i j good q in-i in-j

  module _ (k : ℕ) (ne : k ≢ s.past.config.nodes) (inside : is_inside s.past.config (s.past.at i) k ≡ true) where
    reached-x : (s.past.at i).reached k ≡ true
    reached-x = good-first.inside k inside ne

    reached-y : (s.past.at j).reached k ≡ true
    reached-y = good-second.inside k (same-tree.inside k ∙ inside) ne

    word-same : (p : ℕ) → IsShown (words c x k) p → words c y k p ≡ words c x k p
    word-same p h = elim (cases_lt p NODE_WORDS) [
      | inl l ↦
          node-at c y.value k p l
          ∙ (read_values_stand s m i (node_address c k + p) good q in-i (inr (inr (record { slot = k; place = p; address = refl; within = l; reached = reached-x; shown = h }))) j i in-j in-i ∙ sym (node-at c x.value k p l))
      | inr l ↦ node-past c y.value k p l ∙ sym (node-past c x.value k p l)
    ]

    durable-same : (p : ℕ) → IsShown (words c x k) p → IsShown (words c y k) p → durable c y k p ≡ durable c x k p
    durable-same p h g = good-second.shown k p reached-y g ∙ (word-same p h ∙ sym (good-first.shown k p reached-x h))

    count-x : (page (durable c x k)).count ≡ (page (words c x k)).count
    count-x = ap (λ z. (status z).count) (good-first.shown k STATUS_AT reached-x (inl (omega arith)))

    count-y : (page (durable c x k)).count ≡ (page (words c y k)).count
    count-y = count-x ∙ ap (λ z. (status z).count) (sym (word-same STATUS_AT (inl (omega arith))))

    pub live-same : live_words (page (durable s.past.config (s.past.at j) k)) ≡ live_words (page (durable s.past.config (s.past.at i) k))
    live-same =
        ap (live_to (page (durable c y k)).meta) (ap (λ z. (status z).count) (durable-same STATUS_AT (inl (omega arith)) (inl (omega arith))))
        ∙ live-to-same (page (durable c y k)).meta (page (durable c x k)).meta (page (durable c x k)).count
        (λ t l. ap meta_of (durable-same (META_AT + t) (inl (omega (arith, l, count-x))) (inl (omega (arith, l, count-y)))))

    pub inner-same : 0 < (form_at s.past.config (s.past.at i)).level k → durable s.past.config (s.past.at j) k ≡ durable s.past.config (s.past.at i) k
    inner-same high = λ t p.
        durable-same p (inner-shown c x good-first k ne inside high p) (inner-shown c y good-second k ne (same-tree.inside k ∙ inside) (omega (arith, high, (same-tree.place k ne inside).level)) p) t
