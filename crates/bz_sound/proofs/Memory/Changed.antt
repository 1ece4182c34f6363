-- A fence or an eviction that changes the content as a call does makes the call's effect durable.
use Rattle.std.proofs.Common.{◌≡◌, ℕ, Bool, List, ◌∷◌, refl, sym, ap, ◌∙◌, subst, Option, Some, None, cond}
use Rattle.std.specs.Prelude.{bytes_eq, if◌then◌else◌}
use Rattle.std.proofs.lemmas.Map.Text.{is_eq-slice_cmp}
use Rattle.std.specs.Cmp.Lexicographic.{nat_list_cmp_total}
use Rattle.std.specs.FinMap.{get, insert, remove, get-insert, get-remove}
use Rattle.bz_layout.specs.declared.config.Config.{Config}
use Rattle.bz_content.specs.Content.{image_fault, content_in}
use Rattle.bz_call.specs.Map.{Map, key_of, apply, apply_at, IsChange}
use Rattle.bz_call.specs.declared.calls.Call.{Call}
use Rattle.bz_call.specs.declared.calls.Call.TheVariants.{Insert, Delete, Update, Upsert, Get, Page}
use Rattle.bz_mark.specs.Log.{Log}
use Rattle.bz_mark.specs.declared.marks.Mark.{Mark}
use Rattle.bz_mark.specs.declared.marks.Mark.TheVariants.{Fence, Evict}
use Rattle.bz_sound.specs.Calls.{Open, open_call, map_after, map_with}
use Rattle.bz_sound.specs.Memory.ImageLaws.{IsChangeOf, ChangesKey, EffectFollows, ChangesFollow, SameContentDecodes}
use Rattle.bz_sound.specs.Memory.Moments.{image_after, map_at_start, HoldsMap, Decodes, IsAfterFence}
use Rattle.bz_sound.proofs.Memory.Growth.{decodes-now}

-- a map with this payload, or none, at a key, and else as before
pub record IsMapWith (before after : Map) (key : List ℕ) (new : Option (List ℕ)) : Type 0 where
  pub gets : (other : List ℕ) → get after other ≡ (if bytes_eq other key then new else get before other)

pub with-inserted : (map : Map) (key payload : List ℕ) (new : Option (List ℕ)) → new ≡ Some payload → IsMapWith map (insert map key payload) key new
with-inserted map key payload new is = record {
  gets = λ other. get-insert nat_list_cmp_total map key payload other ∙ ap (λ (b : Bool). cond b (Some payload) (get map other)) (is_eq-slice_cmp other key)
      ∙ ap (λ (found : Option (List ℕ)). cond (bytes_eq other key) found (get map other)) (sym is);
}

pub with-removed : (map : Map) (key : List ℕ) (new : Option (List ℕ)) → new ≡ None → IsMapWith map (remove map key) key new
with-removed map key new is = record {
  gets = λ other. get-remove nat_list_cmp_total map key other ∙ ap (λ (b : Bool). cond b None (get map other)) (is_eq-slice_cmp other key)
      ∙ ap (λ (found : Option (List ℕ)). cond (bytes_eq other key) found (get map other)) (sym is);
}

-- the step of a call that makes such a change
record Steps (map : Map) (call : Call) (old new : Option (List ℕ)) : Type 0 where
  pub step : apply map call ≡ apply_at old map call
  pub changes : IsChange (apply map call).reply
  pub gives : IsMapWith map (apply map call).map (key_of call) new

steps : (map : Map) (call : Call) (old new : Option (List ℕ)) → IsChangeOf call old new → get map (key_of call) ≡ old → Steps map call old new
steps map (Insert key payload) None new is was = record { step = rw was refl; changes = rw was tt; gives = rw was (with-inserted map key payload new is) }
steps map (Insert key payload) (Some had) new is was = absurd is
steps map (Delete key) None new is was = absurd is
steps map (Delete key) (Some had) new is was = record { step = rw was refl; changes = rw was tt; gives = rw was (with-removed map key new is) }
steps map (Update key payload) None new is was = absurd is
steps map (Update key payload) (Some had) new is was = record { step = rw was refl; changes = rw was tt; gives = rw was (with-inserted map key payload new is) }
steps map (Upsert key payload) None new is was = record { step = rw was refl; changes = rw was tt; gives = rw was (with-inserted map key payload new is) }
steps map (Upsert key payload) (Some had) new is was = record { step = rw was refl; changes = rw was tt; gives = rw was (with-inserted map key payload new is) }
steps map (Get key) old new is was = absurd is
steps map (Page key) old new is was = absurd is

-- an image that has what such a map has
holds-changed : (c : Config) (before after : ℕ → ℕ) (map : Map) (call : Call) (old new : Option (List ℕ)) → HoldsMap c before map → image_fault c after ≡ None
    → ChangesKey c before after (key_of call) old new → IsMapWith map (apply map call).map (key_of call) new → HoldsMap c after (apply map call).map
holds-changed c before after map call old new holds whole change is = record {
  well_formed = whole;
  content = λ other. change.becomes other ∙ ap (λ (found : Option (List ℕ)). cond (bytes_eq other (key_of call)) new found) (holds.content other) ∙ sym (is.gets other);
}

-- the two marks that make words durable leave open calls and map
durable-change : (c : Config) (log : Log) (mark : Mark) (w : ℕ) (opened : Open) (old new : Option (List ℕ)) → Decodes c log.start log.past → IsAfterFence (mark ∷ log.past)
    → open_call w (mark ∷ log.past) ≡ Some opened → map_after (map_at_start c log.start) (mark ∷ log.past) ≡ map_after (map_at_start c log.start) log.past
    → opened.effect ≡ None → IsChangeOf opened.call old new → image_fault c (image_after log.start (mark ∷ log.past)) ≡ None
    → ChangesKey c (image_after log.start log.past) (image_after log.start (mark ∷ log.past)) (key_of opened.call) old new → EffectFollows c log mark w opened old
durable-change c log mark w opened old new now flush is same quiet changes whole change =
    let step : Steps (map_after (map_at_start c log.start) log.past) opened.call old new = steps _ opened.call old new changes (sym (now.content (key_of opened.call)) ∙ change.was) in
    record {
      may_follow = (flush, record { opened = opened; is_open = is; number = refl; once = quiet; changes = rw same step.changes });
      step = rw same step.step;
      decodes = subst (λ (o : Option Open). HoldsMap c (image_after log.start (mark ∷ log.past)) (map_with o (map_after (map_at_start c log.start) (mark ∷ log.past)))) (sym is)
          (subst (λ (map : Map). HoldsMap c (image_after log.start (mark ∷ log.past)) (apply map opened.call).map) (sym same)
          (holds-changed c _ _ _ opened.call old new now whole change step.gives));
    }

-- whatever the marks are, the words decode to the map before
pub change-decodes : (c : Config) (log : Log) (mark : Mark) (w : ℕ) (opened : Open) (old new : Option (List ℕ)) → Decodes c log.start log.past → IsAfterFence (mark ∷ log.past)
    → open_call w log.past ≡ Some opened → opened.effect ≡ None → IsChangeOf opened.call old new → image_fault c (image_after log.start (mark ∷ log.past)) ≡ None
    → ChangesKey c (image_after log.start log.past) (image_after log.start (mark ∷ log.past)) (key_of opened.call) old new → EffectFollows c log mark w opened old
change-decodes c log (Fence v) w opened old new now flush is quiet changes whole change = durable-change c log (Fence v) w opened old new now flush is refl quiet changes whole change
change-decodes c log (Evict a) w opened old new now flush is quiet changes whole change = durable-change c log (Evict a) w opened old new now flush is refl quiet changes whole change
change-decodes c log mark w opened old new now flush is quiet changes whole change = absurd flush

pub changes-follow : ChangesFollow
changes-follow c log mark w opened old new sound flush is quiet changes whole change = change-decodes c log mark w opened old new (decodes-now c log sound) flush is quiet changes whole change

pub content-decodes : (c : Config) (log : Log) (mark : Mark) → Decodes c log.start log.past → IsAfterFence (mark ∷ log.past) → image_fault c (image_after log.start (mark ∷ log.past)) ≡ None
    → ((key : List ℕ) → content_in c (image_after log.start (mark ∷ log.past)) key ≡ content_in c (image_after log.start log.past) key) → Decodes c log.start (mark ∷ log.past)
content-decodes c log (Fence v) now flush whole same = record { well_formed = whole; content = λ key. same key ∙ now.content key }
content-decodes c log (Evict a) now flush whole same = record { well_formed = whole; content = λ key. same key ∙ now.content key }
content-decodes c log mark now flush whole same = absurd flush

pub same-content : SameContentDecodes
same-content c log mark sound flush whole same = content-decodes c log mark (decodes-now c log sound) flush whole same
