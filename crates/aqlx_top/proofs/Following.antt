-- From what the modes that read no corpus come to, to the cause of a call's status.
use Rattle.std.proofs.Common.{◌≡◌, ◌∙◌, ℕ, zero, suc, List, [], length, take, subst, sym, refl, arith, append-nil, Option, Some, Result, Ok, Err, IfOk, OnErr, inl, inr, ◌⊎◌}
use Rattle.std.proofs.lemmas.List.{take_all}
use Rattle.std.specs.Io.KnownBytes.{Appends}
use Rattle.span_token.specs.declared.refusal.OutOfMemory.{OutOfMemory}
use Rattle.algebra.specs.Nodes.{IsPlan}
use Rattle.algebra.specs.Plans.{Parts, AreOutputs}
use Rattle.demo_corpus.specs.declared.demo.TheConstants.{DEMO}
use Rattle.demo_corpus.specs.Corpora.{generated_corpus}
use Rattle.demo_corpus.specs.Generator.{first_documents}
use Rattle.aqlx_top.specs.declared.status.Status.{Status}
use Rattle.aqlx_top.specs.declared.modes.Shown.{Shown}
use Rattle.aqlx_top.specs.declared.modes.Shown.TheVariants.{Check, Plan}
use Rattle.aqlx_top.specs.Devices.{FilesEnds, SourceEnds, SinkEnds, sink_ends, GainedFront, IsUntouched, IsUnread, FilesNeverFailed}
use Rattle.aqlx_top.specs.Handing.{PoolEnds, IsHandedAll, IsHandedFront, IsUnasked}
use Rattle.aqlx_top.specs.Modes.{GivesPlan}
use Rattle.aqlx_top.specs.Outcome.{IsAskedFor, IsMeant, IsGivenBy, HasCauseOf, WroteFront, call_of}
use Rattle.aqlx_top.specs.PoolRuns.{summary_from, GivesSummary, IsCountedInPart}
use Rattle.aqlx_top.specs.Plans.{IsPlanOf}
use Rattle.aqlx_top.specs.Showings.{gives, shown_text, IsSent, IsTextShown, IsFileShown, IsSummarySent}
use Rattle.aqlx_top.specs.Words.{Order, to_check, to_plan, to_generate, to_demonstrate, file_of, IsOrder}
use Rattle.aqlx_top.proofs.Answers.{gained_nothing}
use Rattle.plan_maker.specs.PlanTexts.{text_of}
use Rattle.aqlx_top.proofs.Planning.{plan_counts, sound_counts}
use Rattle.line_parts.specs.SinkLaws.{appends_more}
use Rattle.aqlx_top.proofs.Turns.{rose_later}

-- what is shown follows from the plan
pub shown_of : (shown : Shown) (text : List ℕ) (plan : Parts) → IsPlan plan.nodes → AreOutputs plan.nodes plan.outputs → IsPlanOf text plan → gives shown text (shown_text shown plan)
shown_of Check text plan nodes outputs planned = record { program = planned.program; holds = planned.holds; bytes_are = refl }
shown_of Plan text plan nodes outputs planned = record { plan = plan; nodes = nodes; outputs = outputs; planned = planned; bytes_are = refl }

-- the plan is one that is shown
pub plan_shown : (text : List ℕ) (plan : Parts) → IsPlan plan.nodes → AreOutputs plan.nodes plan.outputs → IsPlanOf text plan → GivesPlan text (text_of plan)
plan_shown text plan nodes outputs planned = record { plan = plan; nodes = nodes; outputs = outputs; planned = planned; bytes_are = refl }

-- so the demonstration's summary is given
pub summary_given : (pool : PoolEnds) (count : ℕ) (plan : Parts) → IsPlan plan.nodes → AreOutputs plan.nodes plan.outputs → IsPlanOf DEMO.now plan → IsHandedAll pool plan (first_documents count)
    → GivesSummary pool count (summary_from pool.means plan (first_documents count))
summary_given pool count plan nodes outputs planned handed = record {
  program = planned.program;
  holds = planned.holds;
  plan = plan;
  planned = planned;
  shown = plan_shown DEMO.now plan nodes outputs planned;
  handed = handed;
  bytes_are = refl;
  meant = λ sound. sound_counts pool.means sound plan (first_documents count) ∙ plan_counts DEMO.now plan planned (first_documents count);
}

module _ (words : List (List ℕ)) (files : FilesEnds) (pool : PoolEnds) (corpus : SourceEnds) (out : SinkEnds) (unread : IsUnread corpus) where
  -- an order for which these bytes are to be written, and they are, or their writing failed
  pub sent_cause : (order : Order) (bytes : List ℕ) (status : Status) → IsOrder words order → IsMeant files pool order bytes → IsAskedFor pool order → FilesNeverFailed files → IsSent out bytes status
      → HasCauseOf (call_of words files pool corpus out) status
  sent_cause order bytes status asked meant handed unfailed sent =
      elim sent [
        | inl done ↦ rw done.0 (inr (record { order = order; words = asked; bytes = bytes; meant = meant; asked = handed; unfailed = unfailed; unread = unread; sent = done.1 }))
        | inr broken ↦ rw broken.0 (broken.1, inr (record { order = order; words = asked; bytes = bytes; meant = meant; asked = handed; unread = unread; front = broken.2 }))
      ]

  -- an order that shows something of a program file
  shown_cause : (order : Order) (name : List ℕ) (Gives : List ℕ → List ℕ → Type 0) (status : Status) → IsOrder words order → file_of order ≡ Some name
      → ((bytes : List ℕ) → IsGivenBy files name Gives bytes → IsMeant files pool order bytes) → IsAskedFor pool order → IsUnasked pool
      → IsFileShown Gives name files out status → HasCauseOf (call_of words files pool corpus out) status
  shown_cause order name Gives status asked named means handed unasked came =
      elim came [
        | inl failed ↦
            rw failed.0
            (inl (failed.1, record { name = name; words = record { order = order; asked = asked; named = named }; idle = record { unasked = unasked; unread = unread; untouched = failed.2 } }))
        | inr read ↦ elim read.2 [
          | inl refused ↦
              rw refused.told
              (record {
                name = name;
                text = read.0;
                words = record { order = order; asked = asked; named = named };
                file = read.1;
                cause = refused.cause;
                idle = record { unasked = unasked; unread = unread; untouched = refused.untouched };
              })
          | inr sent ↦
              sent_cause order sent.bytes status asked (means sent.bytes (record { text = read.0; file = read.1; given = sent.given })) handed read.1.unfailed sent.sent
        ]
      ]

-- what the modes come to, for whatever words ask for them
module _ (files : FilesEnds) (pool : PoolEnds) (corpus : SourceEnds) (out : SinkEnds) (unread : IsUnread corpus) where
  pub check_cause : (name : List ℕ) (r : Result Status OutOfMemory) → IsUnasked pool → IfOk r (IsFileShown (gives Check) name files out)
      → IfOk r (λ status. (words : List (List ℕ)) → IsOrder words (to_check name) → HasCauseOf (call_of words files pool corpus out) status)
  check_cause name (Ok status) unasked came = λ words asked. shown_cause words files pool corpus out unread (to_check name) name (gives Check) status asked refl (λ bytes given. given) unasked unasked came
  check_cause name (Err e) unasked came = tt

  pub plan_cause : (name : List ℕ) (r : Result Status OutOfMemory) → IsUnasked pool → IfOk r (IsFileShown (gives Plan) name files out)
      → IfOk r (λ status. (words : List (List ℕ)) → IsOrder words (to_plan name) → HasCauseOf (call_of words files pool corpus out) status)
  plan_cause name (Ok status) unasked came = λ words asked. shown_cause words files pool corpus out unread (to_plan name) name (gives Plan) status asked refl (λ bytes given. given) unasked unasked came
  plan_cause name (Err e) unasked came = tt

  pub gen_cause : (count : ℕ) (r : Result Status OutOfMemory) → IsUnasked pool → FilesNeverFailed files → IfOk r (IsSent out (generated_corpus count))
      → IfOk r (λ status. (words : List (List ℕ)) → IsOrder words (to_generate count) → HasCauseOf (call_of words files pool corpus out) status)
  gen_cause count (Ok status) unasked unfailed sent = λ words asked. sent_cause words files pool corpus out unread (to_generate count) (generated_corpus count) status asked refl unasked unfailed sent
  gen_cause count (Err e) unasked unfailed sent = tt

  pub demo_cause : (count : ℕ) (r : Result Status OutOfMemory) → FilesNeverFailed files → IfOk r (IsSummarySent pool count out)
      → IfOk r (λ status. (words : List (List ℕ)) → IsOrder words (to_demonstrate count) → HasCauseOf (call_of words files pool corpus out) status)
  demo_cause count (Ok status) unfailed came = λ words asked. sent_cause words files pool corpus out unread (to_demonstrate count) came.bytes status asked came.given tt unfailed came.sent
  demo_cause count (Err e) unfailed came = tt

  pub gen_front : (count : ℕ) (r : Result Status OutOfMemory) → IsUnasked pool → OnErr r (GainedFront out (generated_corpus count))
      → OnErr r ((words : List (List ℕ)) → IsOrder words (to_generate count) → WroteFront (call_of words files pool corpus out))
  gen_front count (Ok status) unasked front = tt
  gen_front count (Err e) unasked front = λ words asked.
      inr (inr (record { order = to_generate count; words = asked; bytes = generated_corpus count; meant = refl; asked = unasked; unread = unread; front = front }))

  pub untouched_front : (order : Order) (r : Result Status OutOfMemory) → IsUnasked pool → OnErr r (IsUntouched out)
      → OnErr r ((words : List (List ℕ)) → IsOrder words order → WroteFront (call_of words files pool corpus out))
  untouched_front order (Ok status) unasked untouched = tt
  untouched_front order (Err e) unasked untouched = λ words asked. inl (record { gained = gained_nothing out untouched; handed = inl unasked })

  pub demo_front : (count : ℕ) (r : Result Status OutOfMemory) → OnErr r (IsUntouched out) → OnErr r (IsUnasked pool ⊎ IsCountedInPart pool count)
      → OnErr r ((words : List (List ℕ)) → IsOrder words (to_demonstrate count) → WroteFront (call_of words files pool corpus out))
  demo_front count (Ok status) untouched handed = tt
  demo_front count (Err e) untouched handed = λ words asked.
      inl (record {
        gained = gained_nothing out untouched;
        handed = elim handed [ inl unasked ↦ inl unasked | inr counted ↦ inr (record { count = count; words = asked; counted = counted }) ];
      })

-- and for these words
pub asked_cause : (words : List (List ℕ)) (order : Order) (files : FilesEnds) (pool : PoolEnds) (corpus : SourceEnds) (out : SinkEnds) (r : Result Status OutOfMemory) → IsOrder words order
    → IfOk r (λ status. (all : List (List ℕ)) → IsOrder all order → HasCauseOf (call_of all files pool corpus out) status) → IfOk r (HasCauseOf (call_of words files pool corpus out))
asked_cause words order files pool corpus out (Ok status) asked cause = cause words asked
asked_cause words order files pool corpus out (Err e) asked cause = tt

pub asked_front : (words : List (List ℕ)) (order : Order) (files : FilesEnds) (pool : PoolEnds) (corpus : SourceEnds) (out : SinkEnds) (r : Result Status OutOfMemory) → IsOrder words order
    → OnErr r ((all : List (List ℕ)) → IsOrder all order → WroteFront (call_of all files pool corpus out)) → OnErr r (WroteFront (call_of words files pool corpus out))
asked_front words order files pool corpus out (Ok status) asked front = tt
asked_front words order files pool corpus out (Err e) asked front = front words asked

-- what is written for a text, and for the demonstration
pub text_sent : (shown : Shown) (text : List ℕ) (plan : Parts) (out : SinkEnds) (status : Status) (bytes : List ℕ) → IsPlan plan.nodes → AreOutputs plan.nodes plan.outputs → IsPlanOf text plan
    → bytes ≡ shown_text shown plan → IsSent out bytes status → IsTextShown (gives shown) text out status
text_sent shown text plan out status bytes nodes outputs planned is sent =
    inr (record { bytes = bytes; given = subst (gives shown text) (sym is) (shown_of shown text plan nodes outputs planned); sent = sent })

pub summary_sent : (pool : PoolEnds) (count : ℕ) (plan : Parts) (out : SinkEnds) (status : Status) (bytes : List ℕ) → IsPlan plan.nodes → AreOutputs plan.nodes plan.outputs → IsPlanOf DEMO.now plan
    → IsHandedAll pool plan (first_documents count) → bytes ≡ summary_from pool.means plan (first_documents count) → IsSent out bytes status → IsSummarySent pool count out status
summary_sent pool count plan out status bytes nodes outputs planned handed is sent =
    record { bytes = bytes; given = subst (GivesSummary pool count) (sym is) (summary_given pool count plan nodes outputs planned handed); sent = sent }

-- and memory was wanting while its documents were handed over
pub counted_in_part : (pool : PoolEnds) (count : ℕ) (plan : Parts) → IsPlan plan.nodes → AreOutputs plan.nodes plan.outputs → IsPlanOf DEMO.now plan
    → IsHandedFront pool plan (first_documents count) → IsUnasked pool ⊎ IsCountedInPart pool count
counted_in_part pool count plan nodes outputs planned handed = inr (record { plan = plan; planned = planned; shown = plan_shown DEMO.now plan nodes outputs planned; handed = handed })

-- of nothing a beginning is nothing
take_none : (n : ℕ) → take {A = ℕ} n [] ≡ []
take_none zero = refl
take_none (suc n) = refl

-- what was written and then flushed
pub flushed_after : (h h' h'' : Option (List ℕ)) (f f' f'' x x' x'' : ℕ) (bytes : List ℕ) (status : Status) → Appends h h' bytes → x' ≡ x
    → IsSent (sink_ends h' h'' f' f'' x' x'') [] status → IsSent (sink_ends h h'' f f'' x x'') bytes status
flushed_after h h' h'' f f' f'' x x' x'' bytes status wrote stands sent =
    elim sent [
      | inl done ↦
          inl (done.0, record { gained = all done.1.gained; flushed = done.1.flushed; unfailed = done.1.unfailed ∙ stands })
      | inr broken ↦
          inr (
            broken.0,
            rose_later x x' x'' stands broken.1,
            (
              length bytes,
              subst (λ (bs : List ℕ). Appends h h'' bs) (sym (take_all (length bytes) bytes (omega arith)))
                  (all (subst (λ (bs : List ℕ). Appends h' h'' bs) (take_none broken.2.0) broken.2.1)),
            ),
          )
    ]
  where
    all : Appends h' h'' [] → Appends h h'' bytes
    all nothing = subst (λ (bs : List ℕ). Appends h h'' bs) (append-nil bytes) (appends_more h h' h'' bytes [] wrote nothing)
