-- What comes of asking the daemon that uses a folder of stamps.
use Rattle.std.specs.Prelude.{◌≡◌, ◌⊎◌, ◌++◌, ℕ, List, [], codes}
use Rattle.cs_files.specs.Response.{Ending, complaint}
use Rattle.cs_files.specs.Ending.{Ends, RunsOut, Sink, Tries}
use Rattle.cs_ask.specs.declared.asking.Refusal.{Refusal}
use Rattle.cs_ask.specs.declared.asking.Refusal.TheVariants.{Another, NoDaemon, NoFolder, NotAsked, Unanswered, Unlocked, Untold}

-- why a daemon doesn't do what it is asked, or its state isn't shown, before the folder's path
abbrev pub in_front_of : Refusal → List ℕ
in_front_of NoFolder = codes "no folder "
in_front_of NoDaemon = codes "no daemon uses "
in_front_of Unlocked = codes "can't lock "
in_front_of NotAsked = codes "can't write to "
in_front_of Another = codes "another daemon uses "
in_front_of Unanswered = codes "can't read the answer in "
in_front_of Untold = codes "can't read the state in "

abbrev pub refusal_status : Refusal → ℕ
refusal_status NoFolder = 6
refusal_status NoDaemon = 2
refusal_status Unlocked = 6
refusal_status NotAsked = 6
refusal_status Another = 6
refusal_status Unanswered = 6
refusal_status Untold = 6

abbrev pub refused : Refusal → List ℕ → Ending
refused refusal folder = record {
  status = refusal_status refusal;
  out = [];
  err = complaint (in_front_of refusal ++ folder);
}

-- it is reported, or memory ran out
abbrev pub Refuses : Refusal → List ℕ → Sink → Sink → Sink → Sink → ℕ → Type 0
Refuses refusal folder out-old out-new err-old err-new status =
    Ends (refused refusal folder) out-old out-new err-old err-new status
    ⊎ RunsOut out-old out-new err-old err-new status

-- a text is reported, or nothing
abbrev pub MayTell : List ℕ → Sink → Sink → Type 0
MayTell text old new = (new ≡ old) ⊎ Tries text old new
