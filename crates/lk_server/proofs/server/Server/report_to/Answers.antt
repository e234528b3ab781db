use Rattle.std.proofs.Common.{rules}
use Rattle.lk_server.proofs.server.Server.report_to.Goals as goal

pub returns-then-is_err-clause-replies : goal.returns-then-is_err-clause-replies
returns-then-is_err-clause-replies g c = rw c.in-Some.is (record {
  shown = c.report-report.ensures.0;
  shows = search rules;
  bytes = c.report-report.result;
  reports = search rules;
  located = c.address_for-address.ensures.0;
  locates = search rules;
  address = c.address_for-address.result;
  is_there = search rules;
  replies = search rules;
  still = search rules;
  same = search rules;
})

pub returns-else-is_err-clause-replies : goal.returns-else-is_err-clause-replies
returns-else-is_err-clause-replies g c = rw c.in-Some.is (record {
  shown = c.report-report.ensures.0;
  shows = search rules;
  bytes = c.report-report.result;
  reports = search rules;
  located = c.address_for-address.ensures.0;
  locates = search rules;
  address = c.address_for-address.result;
  is_there = search rules;
  replies = search rules;
  still = search rules;
  same = search rules;
})
