use Rattle.std.proofs.Common.{◌≡◌, inr}
use Rattle.program_rows.proofs.Outcomes.{if_err_map, on_ok_map}
use Rattle.program_rows.proofs.loading.commit_safely.Goals as goal

pub returns-in-Ticket : goal.returns-in-Ticket
returns-in-Ticket g c =
    let number : c.get.result ≡ c.in-Ticket.ticket.record = c.get.ensures.value in
    let commits = rw c.in-Ticket.is at c.serve.ensures in
    record {
      safe = on_ok_map c.flush_to.result _ _ c.flush_to.ensures.safe (λ flushes. record {
        mid = c.serve.new.self;
        ticket = c.in-Ticket.ticket;
        commits = commits;
        flushes = rw number at flushes;
      });
      refused = if_err_map c.flush_to.result _ _ c.flush_to.ensures.refused (λ e flushes. inr (record {
        mid = c.serve.new.self;
        ticket = c.in-Ticket.ticket;
        commits = commits;
        flushes = rw number at flushes;
      }));
    }
