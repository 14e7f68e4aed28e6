-- For every law: paths and nodes
pub mod Paths
-- Law 1: cost
pub mod Cost
pub mod Recurrence
-- Law 2: node order and the ranked nodes
pub mod Order
pub mod Ranked
pub mod Cheaper
-- Law 3: the step
pub mod Step
-- Law 4: the nodes met
pub mod MetNodes
pub mod LastFit
-- Law 5: the number of least paths
pub mod Sharing
-- Law 6: messages and metrics
pub mod Messages
pub mod Bounds
-- Law 7: sheets
pub mod Parts
pub mod SheetTests
pub mod SheetSound
pub mod Honest
pub mod SheetComplete
-- Law 8: the pure search; first its rows, then its steps, then its end
pub mod Rows
pub mod Scan
pub mod Entered
pub mod Table
pub mod Trace
pub mod RowsMet
pub mod Between
pub mod Relax
pub mod Expand
pub mod Run
pub mod Found
pub mod Searched
pub mod SearchCases
pub mod Safe
-- Laws 7 and 8: the honest sheet in the rows that the search leaves
pub mod HonestRanked
pub mod HonestRows
pub mod Listing
-- Law 9: what a verdict says
pub mod Verdicts
pub mod Answered
pub mod Refused
