use Rattle.std.proofs.Common.{◌≡◌, ◌∙◌, List, ap, refl, subst, ℕ}
use Rattle.std.proofs.lemmas.Result.{on_ok_weaker}
use Rattle.cs_args.specs.Asked.{asked_run}
use Rattle.cs_machine.specs.Setup.{note_of}
use Rattle.cs_serve.specs.Failing.{Memory, called_at}
use Rattle.cs_serve.specs.Hooks.{Hook, ask_in, key_of, seen, words_of}
use Rattle.cs_serve.proofs.Calls.{for_call}
use Rattle.cs_serve.proofs.hooks.start_one.Goals as goal

pub returns-clause-asked : goal.returns-clause-asked
returns-clause-asked g c = on_ok_weaker c.remember.result (λ _ before asked.
    let jobs = c.args.jobs.now in
    let failing = c.args.failing.now.items in
    let job = seen c.job_of-job.result in
    let is-job = c.job_of-job.ensures ∙ ap (λ (run : List ℕ). words_of (note_of run jobs)) c.as_slice.ensures in
    let is-seconds = c.as_slice-4.ensures.value ∙ c.in_ok-seconds.ensures in
    let is-called : c.called_at-called.result ≡ called_at failing (key_of job) =
    c.called_at-called.ensures ∙ ap (λ (m : Memory). called_at m c.as_slice-3.result.now) c.as_slice-2.ensures.value ∙ ap (called_at failing) (c.as_slice-3.ensures ∙ c.in_ok-key.ensures) in
    let started = c.start_by-3.ensures _ (c.start_by-2.ensures _ (c.start_by.ensures before asked)) in
    subst (λ (hooks : List Hook). g.S.Starter.asked c.start_by-3.new.starter hooks)
    (for_call c.args.call.now (asked_run c.args.words.now) jobs c.args.now failing job c.as_slice-4.result.now c.args.words.now.check.table.now c.called_at-called.result (ask_in c.asks_for.result.0) (ask_in c.asks_for.result.1) c.as_slice-5.result.now _ before is-job is-seconds refl is-called c.asks_for.ensures c.as_slice-5.ensures c.mail_for.ensures)
    started) c.remember.ensures
