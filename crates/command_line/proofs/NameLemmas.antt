-- Which names make a request.
use Rattle.std.proofs.Common.{◌≡◌, ◌∙◌, List, codes}
use Rattle.clap.specs.Words.{Row, Text}
use Rattle.command_line.specs.CommandLine.{Makes}
use Rattle.command_line.specs.declared.request.Request.{Request}
use Rattle.command_line.specs.declared.request.Request.TheVariants.{Check, Complete, Cover, Cubes, Decide, Drill, Elaborate, Join, Leaf, Lift, Look, Model, Receipt, Refute, Serve, Session, Share, Solve, Split, SplitByLook, Trim, Weave, Work}

-- the name is that of no command
pub record IsNoCommand (name : Text) : Type 0 where
  pub no_decide : name ≡ codes "decide" → ⊥
  pub no_solve : name ≡ codes "solve" → ⊥
  pub no_check : name ≡ codes "check" → ⊥
  pub no_cubes : name ≡ codes "cubes" → ⊥
  pub no_serve : name ≡ codes "serve" → ⊥
  pub no_work : name ≡ codes "work" → ⊥
  pub no_drill : name ≡ codes "drill" → ⊥
  pub no_leaf : name ≡ codes "leaf" → ⊥
  pub no_refute : name ≡ codes "refute" → ⊥
  pub no_join : name ≡ codes "join" → ⊥
  pub no_lift : name ≡ codes "lift" → ⊥
  pub no_model : name ≡ codes "model" → ⊥
  pub no_trim : name ≡ codes "trim" → ⊥
  pub no_elaborate : name ≡ codes "elaborate" → ⊥
  pub no_receipt : name ≡ codes "receipt" → ⊥
  pub no_cover : name ≡ codes "cover" → ⊥
  pub no_session : name ≡ codes "session" → ⊥
  pub no_share : name ≡ codes "share" → ⊥
  pub no_weave : name ≡ codes "weave" → ⊥

-- such a name makes no request
pub makes_none : (read name : Text) (rows : List Row) → read ≡ name → IsNoCommand read → (request : Request) → Makes name rows request → ⊥
makes_none read name rows is none (Decide input proof limit progress stats printing binary) makes = none.no_decide (is ∙ makes.0)
makes_none read name rows is none (Solve input cubes proof options) makes = none.no_solve (is ∙ makes.0)
makes_none read name rows is none (Check input proof session drat progress) makes = none.no_check (is ∙ makes.0)
makes_none read name rows is none (Cubes input depth) makes = none.no_cubes (is ∙ makes.0)
makes_none read name rows is none (Split input cubes leaf on) makes = none.no_cubes (is ∙ makes.0)
makes_none read name rows is none (Look input leaves) makes = none.no_cubes (is ∙ makes.0)
makes_none read name rows is none (SplitByLook input cubes leaf) makes = none.no_cubes (is ∙ makes.0)
makes_none read name rows is none (Complete input list) makes = none.no_cubes (is ∙ makes.0)
makes_none read name rows is none (Serve port input cubes proof options) makes = none.no_serve (is ∙ makes.0)
makes_none read name rows is none (Work port input proof options) makes = none.no_work (is ∙ makes.0)
makes_none read name rows is none (Drill input seed turns) makes = none.no_drill (is ∙ makes.0)
makes_none read name rows is none (Leaf input cubes leaf) makes = none.no_leaf (is ∙ makes.0)
makes_none read name rows is none (Refute input cubes leaf to grow limit fragment printing binary) makes = none.no_refute (is ∙ makes.0)
makes_none read name rows is none (Join input cubes proof fragments printing binary) makes = none.no_join (is ∙ makes.0)
makes_none read name rows is none (Lift input cubes leaf to lidrup drat proof fragment binary) makes = none.no_lift (is ∙ makes.0)
makes_none read name rows is none (Model input output) makes = none.no_model (is ∙ makes.0)
makes_none read name rows is none (Trim input proof out binary) makes = none.no_trim (is ∙ makes.0)
makes_none read name rows is none (Elaborate input drat lrat progress binary) makes = none.no_elaborate (is ∙ makes.0)
makes_none read name rows is none (Receipt input cubes log receipt) makes = none.no_receipt (is ∙ makes.0)
makes_none read name rows is none (Cover input cubes receipts quiet) makes = none.no_cover (is ∙ makes.0)
makes_none read name rows is none (Session input proof limit witness) makes = none.no_session (is ∙ makes.0)
makes_none read name rows is none (Share input folder cubes leaf seed limit turn printing) makes = none.no_share (is ∙ makes.0)
makes_none read name rows is none (Weave input folder log cubes binary) makes = none.no_weave (is ∙ makes.0)
