use Rattle.wf_laws.proofs.HandLemmas.{step_sound}
use Rattle.wf_laws.proofs.HistoryLemmas.{sound_after}
use Rattle.wf_laws.proofs.sound_stays.Goals as goal

pub returns-clause-later : goal.returns-clause-later
returns-clause-later c = step_sound

pub returns-clause-always : goal.returns-clause-always
returns-clause-always c = sound_after
