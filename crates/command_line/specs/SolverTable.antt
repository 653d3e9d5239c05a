-- What each word of a solver asks for: the words of CaDiCaL, Kissat and MiniSat.
use Rattle.std.specs.Prelude.{◌==◌, Bool, true, false, ◌||◌, List, [], ◌∷◌, Option, Some, None, nat_eq, codes, if◌then◌else◌}
use Rattle.std.specs.List.{list_any, slice_split}
use Rattle.std.specs.Cmp.Lexicographic.{pointwise}
use Rattle.clap.specs.Words.{Text}
use Rattle.command_line.specs.declared.solver_words.table.Meaning.{Meaning}
use Rattle.command_line.specs.declared.solver_words.table.Meaning.TheVariants.{Help, Known, Limit, Quiet, Told, Valued, Witness}
use Rattle.command_line.specs.declared.solver_words.table.Why.TheVariants.{Counts, Files, Format, Output, Script, Solution, Time, Unknown}

-- whether two words are the same
abbrev pub same : Text → Text → Bool
same word other = pointwise nat_eq word other

-- whether a text, of which single spaces part the words, has this word
abbrev pub lists : Text → Text → Bool
lists words word = list_any (λ other. same other word) (slice_split (λ byte. byte == 32) words)

-- whether one of these texts has this word
abbrev pub lines_have : List Text → Text → Bool
lines_have lines word = list_any (λ line. lists line word) lines

-- a word without what stands at its front; none if that does not stand there
abbrev pub behind : Text → Text → Option Text
behind [] word = Some word
behind (byte ∷ front) [] = None
behind (byte ∷ front) (first ∷ word) = if byte == first then behind front word else None

abbrev pub have_some : List Text → Option Text → Bool
have_some lines None = false
have_some lines (Some word) = lines_have lines word

-- whether a word is this front and then a word that these texts have
abbrev pub is_listed_behind : Text → List Text → Text → Bool
is_listed_behind front lines word = have_some lines (behind front word)

-- the words that ask for something, or that are passed over and told, and what each asks for
abbrev pub rows : List (Text × Meaning)
rows =
    (codes "-q --quiet", Quiet true)
    ∷ (codes "--no-quiet", Quiet false)
    ∷ (codes "--witness", Witness true)
    ∷ (codes "-n --no-witness", Witness false)
    ∷ (codes "-h --help --help-verb --version", Help)
    ∷ (codes "--limit", Limit)
    ∷ (codes "-t --time -cpu-lim", Valued Time)
    ∷ (codes "--jobs --depth --program --keep", Valued Script)
    ∷ (codes "-c -d", Valued Counts)
    ∷ (codes "--conflicts --decisions", Told Counts)
    ∷ (codes "-e -o", Valued Files)
    ∷ (codes "-dimacs", Told Files)
    ∷ (codes "-w", Valued Output)
    ∷ (codes "-r", Valued Solution)
    ∷ (codes "--binary --drat --frat --idrup --lidrup --no-lrat --veripb", Told Format)
    ∷ (codes "--lrat --no-binary --no-drat", Known)
    ∷ (codes "-f -l -s -v --banner --basic --color --colors --default --force --log --no-color --no-colors --partial --plain --relaxed", Known)
    ∷ (codes "--sat --statistics --stats --strict --unsat --verbose", Known)
    ∷ (codes "-L -L0 -L1 -L2 -L3 -L4 -L5 -L6 -L7 -L8 -L9 -O -O0 -O1 -O2 -O3 -O4 -O5 -O6 -O7 -O8 -O9", Known)
    ∷ (codes "-P -P0 -P1 -P2 -P3 -P4 -P5 -P6 -P7 -P8 -P9", Known)
    ∷ []

-- the options of CaDiCaL 2.1.3 and Kissat 4.0.4 that change how they search, and not what an answer means
abbrev pub long_names : List Text
long_names =
    codes "ands arena arenacompact arenasort arenatype backbone backboneeffort backbonemaxrounds backbonerounds bigbigfraction block"
    ∷ codes "blockmaxclslim blockminclslim blockocclim bump bumpreason bumpreasondepth bumpreasons bumpreasonslimit bumpreasonsrate check"
    ∷ codes "checkassumptions checkconstraint checkfailed checkfrozen checkproof checkwitness chrono chronoalways chronolevelim chronolevels"
    ∷ codes "chronoreusetrail compact compactint compactlim compactmin condition conditionint conditionmaxeff conditionmaxrat conditionmineff"
    ∷ codes "conditionreleff congruence congruenceandarity congruenceands congruencebinaries congruenceites congruenceonce congruencexorarity"
    ∷ codes "congruencexorcounts congruencexors cover covermaxclslim covermaxeff coverminclslim covermineff coverreleff decay decompose"
    ∷ codes "decomposerounds deduplicate definitioncores definitions definitionticks defraglim defragsize eagersubsume eagersubsumelim elim"
    ∷ codes "elimands elimaxeff elimbackward elimboundmax elimboundmin elimclslim elimequivs eliminate eliminatebound eliminateclslim"
    ∷ codes "eliminateeffort eliminateinit eliminateint eliminateocclim eliminaterounds elimineff elimint elimites elimlimited elimocclim"
    ∷ codes "elimprod elimreleff elimrounds elimsubst elimsum elimxorlim elimxors emafast emagluefast emaglueslow emajump emalevel emasize"
    ∷ codes "emaslow ematrailfast ematrailslow equivalences exteagerreasons exteagerrecalc externallrat extract factor factorcandrounds"
    ∷ codes "factordelay factoreffort factorhops factoriniticks factorsize factorstructural fastel fastelclslim fastelim fasteloccs"
    ∷ codes "fastelrounds fastelsub flush flushfactor flushint flushproof focusedtiers forcephase forward forwardeffort ifthenelse ilb"
    ∷ codes "ilbassumptions incremental inprocessing instantiate instantiateclslim instantiateocclim instantiateonce jumpreasons lucky"
    ∷ codes "luckyearly luckylate mineffort minimize minimizedepth minimizeticks modeinit modeint otfs phase phasesaving preprocess"
    ∷ codes "preprocessbackbone preprocesscongruence preprocessfactor preprocessprobe preprocessrounds preprocessweep probe probehbr"
    ∷ codes "probeinit probeint probemaxeff probemineff probereleff proberounds profile promote radixsortlim randec randecfocused randecinit"
    ∷ codes "randecint randeclength randecstable realtime reduce reducehigh reduceinit reduceint reducelow reducetarget reducetier1glue"
    ∷ codes "reducetier2glue reluctant reluctantint reluctantlim reluctantmax reorder reorderinit reorderint reordermaxsize rephase"
    ∷ codes "rephaseinit rephaseint report reportall reportsolve restart restartint restartmargin restartreusetrail restoreall restoreflush"
    ∷ codes "reverse score scorefactor seed shrink shrinkreap shuffle shufflequeue shufflerandom shufflescores simplify smallclauses"
    ∷ codes "stabilize stabilizefactor stabilizeint stabilizemaxint stabilizeonly stable statistics stats substitute substituteeffort"
    ∷ codes "substituterounds subsume subsumebinlim subsumeclslim subsumeint subsumelimited subsumemaxeff subsumemineff subsumeocclim"
    ∷ codes "subsumereleff subsumestr sweep sweepclauses sweepcomplete sweepdepth sweepeffort sweepfliprounds sweepmaxclauses sweepmaxdepth"
    ∷ codes "sweepmaxvars sweeprand sweepvars target terminateint ternary ternarymaxadd ternarymaxeff ternarymineff ternaryocclim"
    ∷ codes "ternaryreleff ternaryrounds tier1 tier1relative tier2 tier2relative transitive transitiveeffort transitivekeep transred"
    ∷ codes "transredmaxeff transredmineff transredreleff tumble verbose vivify vivifyeffort vivifyfocusedtiers vivifyinst vivifyirr"
    ∷ codes "vivifymaxeff vivifymineff vivifyonce vivifyredeff vivifyreleff vivifysort vivifytier1 vivifytier2 vivifytier3 walk walkeffort"
    ∷ codes "walkinitially walkmaxeff walkmineff walknonstable walkredundant walkreleff warmup"
    ∷ []

-- those of MiniSat 2.2.1
abbrev pub short_names : List Text
short_names =
    codes "asymm ccmin-mode cl-lim cla-decay elim gc-frac grow luby mem-lim phase-saving pre rcheck rfirst rinc rnd-freq rnd-init rnd-seed"
    ∷ codes "simp-gc-frac strict sub-lim var-decay verb"
    ∷ []

-- whether a word is an option of another solver that is passed over
abbrev pub is_known : Text → Bool
is_known word =
    is_listed_behind (codes "--") long_names word || is_listed_behind (codes "--no-") long_names word
    || is_listed_behind (codes "-") short_names word || is_listed_behind (codes "-no-") short_names word

-- what a word asks for by the first of these rows that has it
abbrev pub meaning_in : List (Text × Meaning) → Text → Option Meaning
meaning_in [] word = None
meaning_in (row ∷ rows) word = if lists row.0 word then Some row.1 else meaning_in rows word

abbrev pub meaning_or : Option Meaning → Text → Meaning
meaning_or (Some meaning) word = meaning
meaning_or None word = if is_known word then Known else Told Unknown

-- what a word asks for, without a value that is joined to it
abbrev pub meaning_of : Text → Meaning
meaning_of word = meaning_or (meaning_in rows word) word
