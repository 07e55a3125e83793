use Rattle.wf_rules.specs.Plans.{turn_at}
use Rattle.wf_rules.proofs.PlanLemmas.{plan_decides, plan_decides_later}
use Rattle.wf_rules.proofs.laws.plans_hold.Goals as goal

pub returns : goal.returns
returns c =
    record {
      at_once = λ limits scene kept e flow next. plan_decides limits scene kept e (turn_at flow next);
      later = λ limits scene kept now_kept m e flow old now. plan_decides_later limits scene kept now_kept m e flow old now;
    }
