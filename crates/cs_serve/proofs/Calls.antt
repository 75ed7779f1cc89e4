-- What is started for calls that come one after another.
use Rattle.std.proofs.Common.{◌≡◌, ◌∙◌, ℕ, ◌+◌, ◌<◌, List, [], ◌∷◌, ◌++◌, append_assoc, ap, codes, get_or, length, map, sym, take}
use Rattle.std.proofs.lemmas.List.{map-append}
use Rattle.std.proofs.lemmas.List.Sums.{fold_more}
use Rattle.std.specs.Prelude.{Option, None, Some}
use Rattle.std.specs.List.{flat_map}
use Rattle.cs_args.specs.Asked.{AskedRun}
use Rattle.cs_machine.specs.Setup.{note_of}
use Rattle.cs_machine.specs.declared.hook_call.HookCall.{HookCall}
use Rattle.cs_machine.specs.declared.setup.JobNote.{JobNote}
use Rattle.cs_serve.specs.Failing.{Memory, called_at}
use Rattle.cs_serve.specs.Hooks.{Ask, Hook, JobWords, asks, given, hook_of, hook_variables, hooks_along, hooks_more, hooks_of, key_of, mail_for, seconds_of, seconds_text, words_of}

-- one after the other
in_turn : (before one two three : List Hook) → ((before ++ one) ++ two) ++ three ≡ before ++ ((one ++ two) ++ three)
in_turn before one two three =
    ap (λ (hooks : List Hook). hooks ++ three) (append_assoc before one two) ∙ append_assoc before (one ++ two) three

abbrev one : List ℕ → List (List ℕ × List ℕ) → Option (List ℕ) → List Hook
one command variables input = (command, variables, input) ∷ []

pub one_hook : (call : HookCall) (job : JobWords) (seconds table : List ℕ) (input : Option (List ℕ)) (event command : List ℕ) (asked : Option (List ℕ)) (variables : List (List ℕ × List ℕ))
    → asked ≡ Some command → variables ≡ hook_variables event call job seconds table → one command variables input ≡ map (hook_of call job seconds table input) (given (event, asked))
one_hook call job seconds table input event command asked variables is same =
    ap (λ (vs : List (List ℕ × List ℕ)). one command vs input) same ∙ ap (λ (g : Option (List ℕ)). map (hook_of call job seconds table input) (given (event, g))) (sym is)

module _ (call : HookCall) where
  abbrev total : JobWords → List ℕ → List ℕ → List (List ℕ × List ℕ) → List ℕ → Option (List ℕ) → List Hook
  total job seconds table asked output mail =
      map (hook_of call job seconds table None) asked ++ map (hook_of call job seconds table (Some output)) (given (codes "mail", mail))

  -- two that are asked for, and mail
  pub for_call : (a : AskedRun) (jobs : List JobNote) (now : ℕ) (failing : Memory) (job : JobWords) (seconds table : List ℕ) (called : Option ℕ) (first second : Ask) (output : List ℕ) (mail : Option (List ℕ)) (before : List Hook)
      → job ≡ words_of (note_of call.run jobs) → seconds ≡ seconds_text (seconds_of call.event) → table ≡ a.check.table → called ≡ called_at failing (key_of job)
      → given first ++ given second ≡ flat_map given (asks a called now call.event) → output ≡ call.output → mail ≡ mail_for a call
      → ((before ++ map (hook_of call job seconds table None) (given first)) ++ map (hook_of call job seconds table None) (given second))
      ++ map (hook_of call job seconds table (Some output)) (given (codes "mail", mail)) ≡ before ++ hooks_of a jobs now failing call
  for_call a jobs now failing job seconds table called first second output mail before is-job is-seconds is-table is-called asked is-output is-mail =
      let hook = hook_of call job seconds table None in
      let job' = words_of (note_of call.run jobs) in
      let seconds' = seconds_text (seconds_of call.event) in
      let asked' = flat_map given (asks a (called_at failing (key_of job')) now call.event) in
      let posted = map (hook_of call job seconds table (Some output)) (given (codes "mail", mail)) in
      let two : map hook (given first) ++ map hook (given second) ≡ map hook (flat_map given (asks a called now call.event)) =
      sym (map-append hook (given first) (given second)) ∙ ap (map hook) asked in
      let called' : called ≡ called_at failing (key_of job') = is-called ∙ ap (λ (j : JobWords). called_at failing (key_of j)) is-job in
      let same : flat_map given (asks a called now call.event) ≡ asked' = ap (λ (d : Option ℕ). flat_map given (asks a d now call.event)) called' in
      in_turn before (map hook (given first)) (map hook (given second)) posted
      ∙ ap (λ (hooks : List Hook). before ++ (hooks ++ posted)) (two ∙ ap (map hook) same)
      ∙ ap (λ (hooks : List Hook). before ++ hooks) (
      ap (λ (j : JobWords). total j seconds table asked' output mail) is-job
      ∙ ap (λ (s : List ℕ). total job' s table asked' output mail) is-seconds
      ∙ ap (λ (t : List ℕ). total job' seconds' t asked' output mail) is-table
      ∙ ap (λ (o : List ℕ). total job' seconds' a.check.table asked' o mail) is-output
      ∙ ap (λ (m : Option (List ℕ)). total job' seconds' a.check.table asked' call.output m) is-mail
      )

-- what one more call adds
pub along_more : (a : AskedRun) (jobs : List JobNote) (now : ℕ) (failing : Memory) (calls : List HookCall) (i : ℕ) (call : HookCall) → i < length calls → call ≡ get_or calls i call
    → hooks_along a jobs now failing (take (i + 1) calls) ≡ hooks_more a jobs now (hooks_along a jobs now failing (take i calls)) call
along_more a jobs now failing calls i call low is =
    fold_more (hooks_more a jobs now) ([], failing) calls i call low ∙ ap (hooks_more a jobs now (hooks_along a jobs now failing (take i calls))) (sym is)
