use Rattle.core_scan.proofs.Unread.{absent_incomplete, absent_no_index, absent_not_built, building_incomplete, building_no_index, building_not_built}
use Rattle.core_scan.proofs.Unread.{complete_no_index, complete_not_built}
use Rattle.nsf_core.specs.Value.{value_of}
use Rattle.core_committed.proofs.reading.scan_committed.Goals as goal

pub returns-in-Absent : goal.returns-in-Absent
returns-in-Absent g c =
    let life = (value_of c.args.core.now).life in
    record {
      page = record {
        pairs = tt;
        next = tt;
        no_index = absent_no_index life c.in-Absent.ensures.life;
        not_built = absent_not_built life c.in-Absent.ensures.life;
        no_memory = λ complete. absurd (absent_incomplete life c.in-Absent.ensures.life complete);
      };
    }

pub returns-in-Building : goal.returns-in-Building
returns-in-Building g c =
    let life = (value_of c.args.core.now).life in
    record {
      page = record {
        pairs = tt;
        next = tt;
        no_index = building_no_index life _ c.in-Building.ensures.life;
        not_built = building_not_built life _ c.in-Building.ensures.life;
        no_memory = λ complete. absurd (building_incomplete life _ c.in-Building.ensures.life complete);
      };
    }

pub returns-in-Complete : goal.returns-in-Complete
returns-in-Complete g c =
    let life = (value_of c.args.core.now).life in
    record {
      page = record {
        pairs = c.page_of.ensures.pairs;
        next = c.page_of.ensures.next;
        no_index = complete_no_index life c.in-Complete.ensures.life c.page_of.result c.page_of.ensures.no_memory;
        not_built = complete_not_built life c.in-Complete.ensures.life c.page_of.result c.page_of.ensures.no_memory;
        no_memory = λ _. c.page_of.ensures.no_memory;
      };
    }
