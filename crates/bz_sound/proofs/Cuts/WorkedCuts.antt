-- The worked journals with power cuts are sound, by the laws of sound journals.
use Rattle.std.proofs.Common.{◌≡◌, ℕ, Bool, true, false, List, [], ◌∷◌, refl, sym, ap, ◌∙◌, subst, inr, arith, Option, Some, None, cond}
use Rattle.std.specs.Prelude.{slice_index, bytes_eq}
use Rattle.std.specs.FinMap.{get}
use Rattle.std.proofs.lemmas.List.{set-get_or}
use Rattle.std.proofs.lemmas.Slice.Eq.{bytes_eq-Decides}
use Rattle.bz_content.specs.Content.{content_in, image_fault}
use Rattle.bz_content.specs.WorkedInsert.{small, undecided, succeeded}
use Rattle.bz_content.proofs.Proved.{worked_insert_reads}
use Rattle.bz_call.specs.declared.calls.Call.TheVariants.{Insert, Get}
use Rattle.bz_call.specs.declared.replies.Reply.TheVariants.{Value}
use Rattle.bz_mark.specs.declared.marks.Mark.TheVariants.{Begin, End, Load, Store, Evict, Cut, On, Ready}
use Rattle.bz_mark.proofs.WordLaws.{found-read, read-found}
use Rattle.bz_mark.specs.declared.power.Power.TheVariants as power
use Rattle.bz_sound.specs.Calls.{Open, map_after}
use Rattle.bz_sound.specs.Memory.Example.{a_key}
use Rattle.bz_sound.specs.Memory.ImageLaws.{ChangesKey, EffectFollows}
use Rattle.bz_sound.specs.Memory.Moments.{map_at_start, HoldsMap, Decodes}
use Rattle.bz_sound.specs.Power.Example.{start, journal, one, decided, took_effect, kept, lost, recovering, recovered, asking, the_insert, IsRight, CutsAreRight, CutsAreRefused, WorkedCuts}
use Rattle.bz_sound.proofs.Cuts.Growth.{fresh-sound, begins, quiet-acts, flushes, effects, ends, cuts-follow, ons-follow, readys-follow, decodes-now}
use Rattle.bz_sound.proofs.Cuts.Left.{pending-now, happened-cut}
use Rattle.bz_sound.proofs.Cuts.WorkedWords.{same-image, start-length, start-word, evicted_words, evicted-length, evicted-word, undecided-content, succeeded-content, status-undecided, status-succeeded, root-succeeded}
use Rattle.bz_sound.proofs.Memory.Changed.{change-decodes}

-- the image before and after the eviction
before : slice_index start ≡ undecided
before = same-image (slice_index start) undecided start-word

after : slice_index evicted_words ≡ succeeded
after = same-image (slice_index evicted_words) succeeded evicted-word

whole-before : image_fault small (slice_index start) ≡ None
whole-before = ap (image_fault small) before ∙ worked_insert_reads.undecided.whole

whole-after : image_fault small (slice_index evicted_words) ≡ None
whole-after = ap (image_fault small) after ∙ worked_insert_reads.succeeded.whole

same-tests : (a b : Bool) → (a ≡ true → b ≡ true) → (b ≡ true → a ≡ true) → a ≡ b
same-tests true b there back = sym (there refl)
same-tests false true there back = back refl
same-tests false false there back = refl

-- the two ways round
turned : (key : List ℕ) → bytes_eq a_key key ≡ bytes_eq key a_key
turned key = same-tests (bytes_eq a_key key) (bytes_eq key a_key) (λ is. (bytes_eq-Decides key a_key).1 (sym ((bytes_eq-Decides a_key key).0 is)))
    (λ is. (bytes_eq-Decides a_key key).1 (sym ((bytes_eq-Decides key a_key).0 is)))

changes : ChangesKey small (slice_index start) (slice_index evicted_words) a_key None (Some one)
changes = record {
  was = ap (λ (image : ℕ → ℕ). content_in small image a_key) before ∙ undecided-content a_key;
  becomes = λ key. ap (λ (image : ℕ → ℕ). content_in small image key) after ∙ succeeded-content key
      ∙ ap (λ (b : Bool). cond b (Some one) None) (turned key)
      ∙ ap (λ (found : Option (List ℕ)). cond (bytes_eq key a_key) (Some one) found) (sym (ap (λ (image : ℕ → ℕ). content_in small image key) before ∙ undecided-content key));
}

-- the call while it is open
abbrev the_call : Open
the_call = record { number = 1; call = Insert a_key one; begun = 0; effect = None }

at-first : IsRight power.On []
at-first = fresh-sound small power.On start _ start-length (whole-before)

begun : IsRight power.On [] → IsRight power.On (Begin 1 1 (Insert a_key one) ∷ [])
begun sound = begins small power.On (journal []) 1 1 (Insert a_key one) sound (record { worker = omega arith; powered = refl; begins = record { numbered = refl; none_open = refl } })

stored : IsRight power.On (Begin 1 1 (Insert a_key one) ∷ []) → IsRight power.On decided
stored sound = quiet-acts small power.On (journal (Begin 1 1 (Insert a_key one) ∷ [])) (Store 1 32 2) sound tt (record { opened = the_call; is_open = refl }) tt

follows : IsRight power.On decided → EffectFollows small (journal decided) (Evict 32) 1 the_call None
follows sound = change-decodes small (journal decided) (Evict 32) 1 the_call None (Some one) (decodes-now small power.On (journal decided) sound) tt refl refl refl (whole-after) changes

made_durable : IsRight power.On decided → IsRight power.On took_effect
made_durable sound =
    let f : EffectFollows small (journal decided) (Evict 32) 1 the_call None = follows sound in
    effects small power.On (journal decided) (Evict 32) 1 1 sound (λ off. cc) f.may_follow f.decodes

cut-kept : IsRight power.On took_effect → IsRight power.On kept
cut-kept sound = cuts-follow small power.On (journal took_effect) sound (λ off. off)

cut-lost : IsRight power.On decided → IsRight power.On lost
cut-lost sound = cuts-follow small power.On (journal decided) sound (λ off. off)

on-kept : IsRight power.On kept → IsRight power.On (On ∷ kept)
on-kept sound = ons-follow small power.On (journal kept) sound tt

loaded : IsRight power.On (On ∷ kept) → IsRight power.On recovering
loaded sound = quiet-acts small power.On (journal (On ∷ kept)) (Load 0 32 2) sound tt refl (found-read evicted_words 32 2 (omega (arith, evicted-length)) (sym (evicted-word 32 ∙ status-succeeded)))

ended : IsRight power.On recovering → IsRight power.On recovered
ended sound = readys-follow small power.On (journal recovering) sound refl

begun-again : IsRight power.On recovered → IsRight power.On (Begin 1 2 (Get a_key) ∷ recovered)
begun-again sound = begins small power.On (journal recovered) 1 2 (Get a_key) sound (record { worker = omega arith; powered = refl; begins = record { numbered = refl; none_open = refl } })

-- the get while it is open
abbrev the_get : Open
the_get = record { number = 2; call = Get a_key; begun = 8; effect = None }

asked : IsRight power.On (Begin 1 2 (Get a_key) ∷ recovered) → IsRight power.On asking
asked sound = quiet-acts small power.On (journal (Begin 1 2 (Get a_key) ∷ recovered)) (Load 1 1 1) sound tt (record { opened = the_get; is_open = refl })
    (found-read evicted_words 1 1 (omega (arith, evicted-length)) (sym (evicted-word 1 ∙ root-succeeded)))

-- what the map has then
has-pair : Decodes small start took_effect → get (map_after (map_at_start small start) took_effect) a_key ≡ Some one
has-pair decodes = sym (decodes.content a_key) ∙ ap (λ (image : ℕ → ℕ). content_in small image a_key) after ∙ succeeded-content a_key

answered : IsRight power.On asking → get (map_after (map_at_start small start) took_effect) a_key ≡ Some one → IsRight power.On (End 1 2 (Value one) 10 ∷ asking)
answered sound has = ends small power.On (journal asking) (record { worker = 1; opened = the_get; reply = Value one; at = 10 }) sound refl refl
    (record { after_begin = omega arith; before_end = omega arith; right = record { loaded = refl; answers = record { answers = rw has refl; stays = rw has refl } } })

on-lost : IsRight power.On lost → IsRight power.On (On ∷ lost)
on-lost sound = ons-follow small power.On (journal lost) sound tt

loaded-lost : IsRight power.On (On ∷ lost) → IsRight power.On (Load 0 32 1 ∷ On ∷ lost)
loaded-lost sound = quiet-acts small power.On (journal (On ∷ lost)) (Load 0 32 1) sound tt refl (found-read start 32 1 (omega (arith, start-length)) (sym (start-word 32 ∙ status-undecided)))

twice : IsRight power.On (On ∷ kept) → IsRight power.On (On ∷ Cut ∷ On ∷ kept)
twice sound = ons-follow small power.On (journal (Cut ∷ On ∷ kept)) (cuts-follow small power.On (journal (On ∷ kept)) sound (λ off. off)) tt

cut-again : IsRight power.On recovering → IsRight power.On (On ∷ Cut ∷ recovering)
cut-again sound = ons-follow small power.On (journal (Cut ∷ recovering)) (cuts-follow small power.On (journal recovering) sound (λ off. off)) tt

-- the word of the eviction is durable already
evicted : IsRight power.On recovering → IsRight power.On (Evict 32 ∷ recovering)
evicted sound = flushes small power.On (journal recovering) (Evict 32) sound tt (λ off. cc)
    (subst (λ (words : List ℕ). HoldsMap small (slice_index words) (map_after (map_at_start small start) recovering)) (sym (set-get_or evicted_words 32 0))
    (decodes-now small power.On (journal recovering) sound))

off-first : IsRight power.Off []
off-first = fresh-sound small power.Off start _ start-length (whole-before)

booted : IsRight power.Off [] → IsRight power.Off (Ready ∷ Load 0 32 1 ∷ On ∷ [])
booted sound = readys-follow small power.Off (journal (Load 0 32 1 ∷ On ∷ [])) read refl
  where
    on : IsRight power.Off (On ∷ [])
    on = ons-follow small power.Off (journal []) sound refl

    read : IsRight power.Off (Load 0 32 1 ∷ On ∷ [])
    read = quiet-acts small power.Off (journal (On ∷ [])) (Load 0 32 1) on tt refl (found-read start 32 1 (omega (arith, start-length)) (sym (start-word 32 ∙ status-undecided)))

pub cuts-are-right : CutsAreRight
cuts-are-right = record {
  insert_kept = failed;
  kept_pair = pair;
  kept_call = happened-cut took_effect the_insert (inr (record { pending = pending-now took_effect 1 the_insert.opened refl; took = refl }));
  answered = answered (asked (begun-again (ended (loaded (on-kept failed))))) pair;
  insert_lost = gone;
  lost_pair = sym ((decodes-now small power.On (journal lost) gone).content a_key) ∙ changes.was;
  lost_word = loaded-lost (on-lost gone);
  twice = twice (on-kept failed);
  cut_again = cut-again (loaded (on-kept failed));
  evicted = evicted (loaded (on-kept failed));
  booted = booted (off-first);
}
  where
    stands : IsRight power.On decided
    stands = stored (begun (at-first))

    durable : IsRight power.On took_effect
    durable = made_durable stands

    failed : IsRight power.On kept
    failed = cut-kept durable

    gone : IsRight power.On lost
    gone = cut-lost stands

    pair : get (map_after (map_at_start small start) took_effect) a_key ≡ Some one
    pair = has-pair (decodes-now small power.On (journal took_effect) durable)

pub cuts-are-refused : CutsAreRefused
cuts-are-refused = record {
  begin_off = λ s. cc (s.once.0.powered);
  begin_recovering = λ s. cc (s.once.0.powered);
  begun_anew = λ s. absurd (omega (arith, s.once.0.begins.numbered));
  skipped = λ s. absurd (omega (arith, s.once.0.begins.numbered));
  act_off = λ s. cc (s.once.0.is_open);
  act_recovering = λ s. cc (s.once.0.is_open);
  act_without_call = λ s. cc (s.once.0.is_open);
  recovery_on = λ s. cc (s.once.0);
  recovery_off = λ s. cc (s.once.0);
  recovery_ended = λ s. cc (s.once.0);
  answered_off = λ s. cc (s.once.0.is_open);
  answered_later = λ s. cc (s.once.0.is_open);
  effect_later = λ s. cc (s.once.0.1.is_open);
  effect_again = λ s. cc (s.once.0.1.is_open, s.once.0.1.once);
  on_on = λ s. cc (s.once.0);
  on_recovering = λ s. cc (s.once.0);
  on_recovered = λ s. cc (s.once.0);
  on_first = λ s. cc (s.once.0);
  cut_off = λ s. s.once.0 refl;
  evicted_off = λ s. s.once.0 refl;
  ready_evicted = λ s. s.once.0;
  ready_at_once = λ s. s.once.0;
  ready_twice = λ s. s.once.0;
  ready_on = λ s. s.once.0;
  ready_off = λ s. s.once.0;
  cached_word = λ s. absurd (omega (arith, read-found start 32 2 s.truthful.0, start-word 32, status-undecided));
  off_begin = λ s. cc (s.once.0.powered);
  off_cut = λ s. s.once.0 refl;
}

pub worked-cuts : WorkedCuts
worked-cuts = record {
  right = cuts-are-right;
  refused = cuts-are-refused;
  counts = record { taken = refl; stored = refl; taken_off = refl; free_again = refl; unused_again = refl; at_start = refl; at_on = refl };
  power = record { first = refl; failed = refl; back = refl; ready = refl; image = refl };
}
