-- The worked journal is sound, by the laws of sound journals, and those that differ from it are not.
use Rattle.std.proofs.Common.{[], ◌∷◌, None, refl, arith}
use Rattle.bz_layout.specs.Config.{IsConfig}
use Rattle.bz_layout.specs.Fresh.{fresh_words}
use Rattle.bz_layout.specs.declared.config.Config.{Config}
use Rattle.bz_layout.proofs.Laws.{fresh_words_say}
use Rattle.bz_content.proofs.Proved.{fresh_memory_is_empty}
use Rattle.bz_call.specs.declared.calls.Call.TheVariants.{Get}
use Rattle.bz_call.specs.declared.replies.Reply.TheVariants.{Missing}
use Rattle.bz_mark.specs.declared.marks.Mark.TheVariants.{Begin, End, Load}
use Rattle.bz_sound.specs.Calls.{Open}
use Rattle.bz_sound.specs.Memory.Example.{a_key, journal, asked, WorkedGetIsSound}
use Rattle.bz_sound.specs.Memory.Sound.{IsSound}
use Rattle.bz_sound.proofs.Memory.Fresh.{fresh-sound}
use Rattle.bz_sound.proofs.Memory.Growth.{begins, quiet-acts, ends}
use Rattle.bz_sound.proofs.Memory.Reads.{image-answers}

-- the call while it is open
abbrev the_call : Open
the_call = record { number = 1; call = Get a_key; begun = 0; effect = None }

at-first : (c : Config) → IsConfig c → IsSound c (journal c [])
at-first c is = fresh-sound c (fresh_words c) _ (fresh_words_say c).size (fresh_memory_is_empty c is).0

begun : (c : Config) → IsSound c (journal c []) → IsSound c (journal c (Begin 1 1 (Get a_key) ∷ []))
begun c sound = begins c (journal c []) 1 1 (Get a_key) sound (omega arith) (record { numbered = refl; none_open = refl })

loaded : (c : Config) → IsSound c (journal c (Begin 1 1 (Get a_key) ∷ [])) → IsSound c (journal c asked)
loaded c sound = quiet-acts c (journal c (Begin 1 1 (Get a_key) ∷ [])) (Load 1 1 1) sound tt (record { opened = the_call; is_open = refl }) refl

told : (c : Config) → IsConfig c → IsSound c (journal c asked) → IsSound c (journal c (End 1 1 Missing 2 ∷ asked))
told c is sound =
    ends c (journal c asked) (record { worker = 1; opened = the_call; reply = Missing; at = 2 }) sound refl refl
    ((image-answers c (journal c asked) 1 2 the_call sound (record { is_open = refl; quiet = refl; after_begin = omega arith; before_end = omega arith; loaded = refl })).no_value a_key refl
    ((fresh_memory_is_empty c is).1 a_key))

pub worked-get : WorkedGetIsSound
worked-get c is = record {
  right = told c is (loaded c (begun c (at-first c is)));
  early = λ s. s.replies.0.right.loaded;
  late = λ s. absurd (omega (arith, s.replies.0.before_end));
  no_load = λ s. s.replies.0.right.loaded;
  other_load = λ s. absurd (omega (arith, s.replies.0.right.loaded));
  other_call = λ s. cc (s.once.0.is_open, s.once.0.number);
  two_calls = λ s. cc (s.once.0.1.none_open);
  skipped = λ s. absurd (omega (arith, s.once.0.1.numbered));
  other_value = λ s. cc (s.truthful.0);
  no_call = λ s. cc (s.once.0.is_open);
  recovering = λ s. absurd (omega (arith, s.once.0.0));
  after_load = λ s. s.once.0.0;
  after_begin = λ s. s.once.0.0;
  cut = λ s. s.once.0;
}
